-- What a keeper has once an event is saved.
use Rattle.std.specs.Prelude.{Option, Some, None}
use Rattle.saverecord.specs.Texts.{Texts, whole_alone, with_text}
use Rattle.ledger.specs.declared.text.Text.{Text}
use Rattle.ledger.specs.declared.text.Text.TheVariants.{Whole, Entry}

-- a whole record stands in the place of all, an entry behind what is there
abbrev pub kept_with : Text → Texts → Texts
kept_with (Whole bytes) t = whole_alone bytes.items
kept_with (Entry bytes) t = with_text bytes.items t

-- the same, if there is a text
abbrev pub kept_with_some : Option Text → Texts → Texts
kept_with_some None t = t
kept_with_some (Some text) t = kept_with text t
