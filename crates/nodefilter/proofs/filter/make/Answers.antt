use Rattle.std.proofs.Common.{◌≡◌, ℕ, Bool, List, IfOk, sym, ap, subst}
use Rattle.std.specs.String.{string_bytes}
use Rattle.services.specs.Served.{answer_text, OrLost}
use Rattle.services.proofs.SentLemmas.{or_lost}
use Rattle.nodelines.specs.declared.about.About.{About}
use Rattle.nodefilter.specs.Carried.{about_call}
use Rattle.nodefilter.specs.Filters.{IsAnswered, store_fault}
use Rattle.nodefilter.specs.Filters.Makes.{Made}
use Rattle.nodefilter.specs.States.{Seen}
use Rattle.nodelines.specs.Written.{IsWritten}
use Rattle.nodefilter.proofs.filter.make.Goals as goal
use Rattle.farmwire.specs.Sealed.{Keys, key_in}

pub returns-then-filter : goal.returns-then-filter
returns-then-filter g c =
    let answer = c.in_ok-carried.carried.answer in
    Made answer c.in_ok-carried.ensures.done
    (subst (λ (down : Bool). OrLost (IsAnswered down (key_in c.args.filter.now.keys) (about_call c.args.call) answer) (answer_text c.print_line.result)) (sym c.if-filter.true)
    (or_lost (λ text. text ≡ store_fault) c.print_line.result c.print_line.ensures))

pub returns : goal.returns
returns g c =
    let carried = c.in_ok-carried.carried in
    let done = c.in_ok-carried.ensures.done in
    let keys = ap (λ (s : Seen g.row.S.Denot). s.keys) done.same in
    let keyed = subst (λ (k : Keys). IfOk c.print_carried.result (λ text. IsWritten k carried.about carried.answer (string_bytes text))) keys c.print_carried.ensures in
    let written = subst (λ (it : About). IfOk c.print_carried.result (λ text. IsWritten (key_in c.args.filter.now.keys) it carried.answer (string_bytes text)))
    c.in_ok-carried.ensures.about keyed in
    Made carried.answer done
    (subst (λ (down : Bool). OrLost (IsAnswered down (key_in c.args.filter.now.keys) (about_call c.args.call) carried.answer) (answer_text c.print_carried.result)) (sym c.if-filter.false)
    (or_lost (IsWritten (key_in c.args.filter.now.keys) (about_call c.args.call) carried.answer) c.print_carried.result written))
