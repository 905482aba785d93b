use Rattle.std.proofs.Common.{◌≡◌, ◌∙◌, Bool, List, Option, Some, None, not, filter, ap, sym, false}
use Rattle.std.proofs.lemmas.List.Folds.{find-append}
use Rattle.std.specs.List.{find}
use Rattle.std.specs.Option.{option_copied, option_or}
use Rattle.farm_base.specs.declared.lease.Lease.{Lease}
use Rattle.protocol.specs.Ledger.{is_of}
use Rattle.holdings.specs.Endings.{has_ended}
use Rattle.leases.specs.Leases.{Table}
use Rattle.leaseindex.proofs.CountLemmas.{first_kept, none_kept}
use Rattle.leases.proofs.view.TableView.lease_of.Goals as goal

pub returns-in-None : goal.returns-in-None
returns-in-None c =
    let test = is_of c.args.node c.args.life c.args.ask in
    let ended : Lease → Bool = has_ended c.self.inside.ended.now in
    let live : List Lease = c.self.inside.live.now.leases in
    let none : find test live ≡ None = sym c.of_ask.ensures ∙ ap option_copied c.in-None.is in
    c.first_of.ensures ∙ ap (λ (o : Option Lease). option_or o (find test c.self.inside.granted.now)) (sym (none_kept test ended live none))
    ∙ sym (find-append test (filter (λ g. not (ended g)) live) c.self.inside.granted.now)
    ∙ ap (λ (t : Table). find test t.live) c.self.view_is

pub returns-else-has_ended : goal.returns-else-has_ended
returns-else-has_ended c =
    let test = is_of c.args.node c.args.life c.args.ask in
    let ended : Lease → Bool = has_ended c.self.inside.ended.now in
    let live : List Lease = c.self.inside.live.now.leases in
    let found : find test live ≡ Some c.in-Some.lease.now = sym c.of_ask.ensures ∙ ap option_copied c.in-Some.is in
    let stays : ended c.in-Some.lease.now ≡ false = sym c.has_ended.ensures ∙ c.if-has_ended.false in
    ap (λ (o : Option Lease). option_or o (find test c.self.inside.granted.now)) (sym (first_kept test ended live c.in-Some.lease.now found stays))
    ∙ sym (find-append test (filter (λ g. not (ended g)) live) c.self.inside.granted.now)
    ∙ ap (λ (t : Table). find test t.live) c.self.view_is
