-- What is known of an execution that is over.
use Rattle.std.proofs.Common.{◌≡◌, Bool, true, false, not, ◌&&◌, ◌||◌, List, Option, Some, refl, ap, sym, ◌∙◌}
use Rattle.std.specs.List.{list_any, list_all}
use Rattle.protocol.specs.Lists.{is_nil}
use Rattle.protocol.specs.Names.{Ticket}
use Rattle.protocol.specs.Machine.{Confirmed}
use Rattle.protocol.specs.Replay.{Farm}
use Rattle.events.specs.declared.answer.How.{How}
use Rattle.events.specs.declared.answer.How.TheVariants as how
use Rattle.farmboard.specs.declared.tokens.Finished.{Finished}
use Rattle.farmboard.specs.declared.settling.Fate.TheVariants as fate
use Rattle.farmboard.specs.Tokens.{is_in_life}
use Rattle.farmhistory.specs.Lines.{stands, is_live}
use Rattle.farmboard.specs.Settling.{way_out_in, is_committed, is_fenced, has_restarted, is_confirmed, is_dropped, is_lost, Fares}

-- confirmed, of its parts: it left nothing, all stands, its node restarted, its ask ended as committed
confirmed_by : (n a r c x y z w : Bool) → n ≡ x → a ≡ y → r ≡ z → c ≡ w → (n || (a && (r || c))) ≡ (x || (y && (z || w)))
confirmed_by n a r c x y z w p q s t = rw (p, q, s, t) refl

module _ (s : Farm) (f : Finished) (some : is_nil f.versions ≡ false) where
  -- its node is in its life, and its ask ended so
  module _ (alive : is_in_life s f.node f.life ≡ true) (way : Option How) (is : way ≡ way_out_in s f) where
    here : has_restarted s f ≡ false
    here = ap not alive

    confirmed_is : (all : Bool) → all ≡ list_all (stands s f.ticket) f.versions → is_confirmed s f ≡ (all && is_committed way)
    confirmed_is all stand = confirmed_by (is_nil f.versions) (list_all (stands s f.ticket) f.versions) (has_restarted s f) (is_committed (way_out_in s f)) false all false (is_committed way) some (sym stand) here (ap is_committed (sym is))

    dropped_is : is_dropped s f ≡ is_fenced way
    dropped_is = ap (λ (b : Bool). not b && is_fenced (way_out_in s f)) here ∙ ap is_fenced (sym is)

    not_lost : is_lost s f ≡ false
    not_lost = ap (λ (b : Bool). b && (not (is_live s f.ticket) && not (list_any (stands s f.ticket) f.versions))) here

    pub fenced_drops : (all : Bool) (t : Ticket) → all ≡ list_all (stands s f.ticket) f.versions → way ≡ Some (how.Fenced t) → Fares s f fate.Dropped
    fenced_drops all t stand at = (confirmed_is all stand ∙ ap (λ (w : Option How). all && is_committed w) at ∙ and_false all, dropped_is ∙ ap is_fenced at)
      where
        and_false : (b : Bool) → (b && false) ≡ false
        and_false true = refl
        and_false false = refl

    pub committed_confirms : (t : Ticket) (made : List Confirmed) → list_all (stands s f.ticket) f.versions ≡ true → way ≡ Some (how.Committed t made) → Fares s f fate.Confirmed
    committed_confirms t made all at = confirmed_is true (sym all) ∙ ap is_committed at

    pub stays_open : (all : Bool) → all ≡ list_all (stands s f.ticket) f.versions → (all && is_committed way) ≡ false → is_fenced way ≡ false → Fares s f fate.Open
    stays_open all stand unknown kept = (confirmed_is all stand ∙ unknown, dropped_is ∙ kept, not_lost)

  -- its node restarted
  module _ (dead : is_in_life s f.node f.life ≡ false) where
    gone : has_restarted s f ≡ true
    gone = ap not dead

    confirmed_then : (all : Bool) → all ≡ list_all (stands s f.ticket) f.versions → is_confirmed s f ≡ (all && true)
    confirmed_then all stand = confirmed_by (is_nil f.versions) (list_all (stands s f.ticket) f.versions) (has_restarted s f) (is_committed (way_out_in s f)) false all true (is_committed (way_out_in s f)) some (sym stand) gone refl

    not_dropped : is_dropped s f ≡ false
    not_dropped = ap (λ (b : Bool). not b && is_fenced (way_out_in s f)) gone

    lost_is : is_lost s f ≡ (not (is_live s f.ticket) && not (list_any (stands s f.ticket) f.versions))
    lost_is = ap (λ (b : Bool). b && (not (is_live s f.ticket) && not (list_any (stands s f.ticket) f.versions))) gone

    pub standing_confirms : list_all (stands s f.ticket) f.versions ≡ true → Fares s f fate.Confirmed
    standing_confirms all = confirmed_then true (sym all)

    pub live_waits : list_all (stands s f.ticket) f.versions ≡ false → is_live s f.ticket ≡ true → Fares s f fate.Open
    live_waits all live = (confirmed_then false (sym all), not_dropped, lost_is ∙ ap (λ (b : Bool). not b && not (list_any (stands s f.ticket) f.versions)) live)

    pub partly_waits : list_all (stands s f.ticket) f.versions ≡ false → list_any (stands s f.ticket) f.versions ≡ true → Fares s f fate.Open
    partly_waits all some = (confirmed_then false (sym all), not_dropped, lost_is ∙ ap (λ (b : Bool). not (is_live s f.ticket) && not b) some ∙ and_false (not (is_live s f.ticket)))
      where
        and_false : (b : Bool) → (b && false) ≡ false
        and_false true = refl
        and_false false = refl

    pub nothing_loses : list_all (stands s f.ticket) f.versions ≡ false → is_live s f.ticket ≡ false → list_any (stands s f.ticket) f.versions ≡ false → Fares s f fate.Lost
    nothing_loses all live none = (confirmed_then false (sym all), lost_is ∙ (λ j. not (live j) && not (none j)))
