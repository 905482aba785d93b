use Rattle.std.proofs.Common.{◌≡◌, ◌<◌, ℕ, List, get_or, length, inl, inr, ap, sym, ◌∙◌, arith}
use Rattle.std.proofs.lemmas.Bool.{cases_eq}
use Rattle.std.proofs.lemmas.List.{get_or_read}
use Rattle.protocol.specs.Machine.{Parked}
use Rattle.parked.specs.Newest.{knows}
use Rattle.parked.proofs.parked_asks.note_all.Goals as goal

pub loop-p-preserved : goal.loop-p-preserved
loop-p-preserved c =
    let asks : List Parked = c.args.asks.now in
    let i : ℕ = c.loop-p.p-index in
    let p : Parked = c.p-item.result in
    let inside : i < length asks = omega arith in
    record {
      room = omega (arith, c.note.ensures.room, c.loop-p.invariant.room);
      known = λ k d less. elim (cases_eq k i) [
        | inl here ↦ (
            let same : get_or asks k d ≡ p = ap (λ (n : ℕ). get_or asks n d) here ∙ sym (get_or_read asks i p inside c.p-item.is d) in
            ap (λ (q : Parked). knows c.note.new.self q.node q.life q.ask) same ∙ c.note.ensures.known
            )
        | inr other ↦ c.note.ensures.others (get_or asks k d).node (get_or asks k d).life (get_or asks k d).ask (c.loop-p.invariant.known k d (omega (arith, less, other)))
      ];
      others = λ q known. c.note.ensures.others q.node q.life q.ask (c.loop-p.invariant.others q known);
    }
