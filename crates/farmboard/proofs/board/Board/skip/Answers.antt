use Rattle.std.proofs.Common.{◌++◌, ◌∷◌, [], List, ℕ, ap, ◌∙◌, subst, sym}
use Rattle.farmhistory.specs.Shown.{shown}
use Rattle.farmhistory.specs.History.{History, IsNext}
use Rattle.farmhistory.proofs.HistoryLemmas.{skipped_more}
use Rattle.farmboard.proofs.board.Board.skip.Goals as goal

pub invariant_of-self-2 : goal.invariant_of-self-2
invariant_of-self-2 c =
    skipped_more (shown c.self.inside.world) (record { setup = c.self.inside.setup; events = c.self.inside.schedule.items; skipped = c.self.inside.skipped.items }) c.self.inside.passed c.in-Some.number c.self.inside.ahead.items c.self.inside.out.items c.self.inside.counts c.push_reserved.new.self.items
    c.self.invariant (subst (λ (h : History). IsNext h c.in-Some.number) (sym c.self.view_is) c.in-Some.ensures.some) (c.push_reserved.ensures.items ∙ ap (λ (xs : List ℕ). xs ++ c.in-Some.number ∷ []) c.reserve.ensures.items)
