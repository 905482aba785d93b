use Rattle.std.proofs.Common.{inl, inr, ◌∙◌}
use Rattle.merging.proofs.MergeLaws.{theirs_stay, mine_stay, contested_stays}
use Rattle.merging.proofs.laws.each_side_keeps_what_it_changed.Goals as goal

pub returns : goal.returns
returns c = record {
  theirs = λ rule base mine theirs merged path m h. elim (theirs_stay rule base mine theirs path h) [ inl is ↦ inl (m.each path ∙ is) | inr s ↦ inr s ];
  mine = λ rule base mine theirs merged path m h. elim (mine_stay rule base mine theirs path h) [ inl is ↦ inl (m.each path ∙ is) | inr s ↦ inr s ];
  contested = λ rule base mine theirs merged path m h. elim (contested_stays rule base mine theirs path h) [ inl is ↦ inl (m.each path ∙ is) | inr s ↦ inr s ];
}
