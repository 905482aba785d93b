-- What an accepted Begin gives.
use Rattle.std.proofs.Common.{◌≡◌, ◌≢◌, ℕ, List, Ok, refl, ap, sym, subst, ◌∙◌}
use Rattle.protocol.specs.Names.{Life}
use Rattle.protocol.specs.Machine.{Grant}
use Rattle.events.specs.declared.event.Event.TheVariants as event
use Rattle.events.specs.declared.answer.EventNote.TheVariants as note
use Rattle.events.specs.declared.answer.NodeNote.TheVariants as node_note
use Rattle.events.specs.declared.answer.Outcome.{Outcome}
use Rattle.farmboard.specs.declared.tokens.Granted.{Granted}
use Rattle.farmboard.specs.declared.tokens.Running.{Running}
use Rattle.farmhistory.specs.History.{History, farm_of, Took, Did}
use Rattle.farmboard.specs.Begins.{begin_of, AreBases, Lends, IsBegunOf, IsUsed}
use Rattle.farmhistory.proofs.NodeLemmas.{did_begin, still_there, same_life, runs_now, has_ticket}

module _ (old new : History) (token : Granted) (l : Life) (g : Grant) (bases : List (List ℕ)) (lent : Lends (farm_of old) token.node token.grant.ticket l g bases) where
  pub begun_token : (r : Running) → r ≡ record { node = token.node; life = l; wants = token.wants; grant = g; bases = bases } → IsBegunOf token r
  begun_token r is = record {
    node = ap (λ (x : Running). x.node) is;
    wants = ap (λ (x : Running). x.wants) is;
    ticket = ap (λ (x : Running). x.grant.ticket) is ∙ has_ticket old token.node token.grant.ticket g lent.there lent.lease;
  }

  pub begun_bases : (r : Running) → r ≡ record { node = token.node; life = l; wants = token.wants; grant = g; bases = bases } → AreBases r.grant r.bases
  begun_bases r is = subst (λ (x : Running). AreBases x.grant x.bases) (sym is) lent.bases

  module _ (o : Outcome) (took : Took old (begin_of token) new (Ok o)) where
    pub begun_did : Did old (begin_of token) new (note.Node (node_note.Begun token.grant.ticket))
    begun_did = did_begin old token.node token.grant.ticket g lent.there lent.lease new o took

    pub begun_used : (r : Running) → r ≡ record { node = token.node; life = l; wants = token.wants; grant = g; bases = bases } → IsUsed (farm_of new) r
    begun_used r is = subst (IsUsed (farm_of new)) (sym is) (record {
      there = still_there old token.node token.grant.ticket g lent.there lent.lease new o took;
      life = same_life old token.node token.grant.ticket g lent.there lent.lease new o took l lent.life;
      runs = (_, _, _, runs_now old token.node token.grant.ticket g lent.there lent.lease new o took);
    })
