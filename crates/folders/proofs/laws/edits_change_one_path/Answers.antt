use Rattle.folders.proofs.Maps.{put-content_at, remove-content_at, edited_rises}
use Rattle.folders.proofs.laws.edits_change_one_path.Goals as goal

pub returns : goal.returns
returns c = record { put = put-content_at; remove = remove-content_at; rise = edited_rises }
