use Rattle.std.proofs.Common.{take}
use Rattle.words.specs.Words.{texts}
use Rattle.farmwire.specs.Words.{SpellAll}
use Rattle.farmwire.proofs.item.items_of.Given as goal

abbrev pub invariant-loop-word : goal.invariant-loop-word
invariant-loop-word g l = SpellAll g.T.Item.spelling g.T.Item.lawful (texts (take l.word-index l.words)) l.items.items
