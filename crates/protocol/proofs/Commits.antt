-- A node commits one thing under a ticket, in one life.
use Rattle.std.proofs.Common.{◌≡◌, ◌≢◌, ℕ, zero, suc, List, [], ◌∷◌, ◌++◌, ◌⊎◌, Bool, Some, refl, sym, ◌∙◌, ap, subst, inl, inr}
use Rattle.std.proofs.lemmas.Bool.{cases_eq}
use Rattle.protocol.specs.Lists.{In, nth, set_nth}
use Rattle.protocol.specs.Names.{Digest, NodeId, Life, Ticket, Want}
use Rattle.protocol.specs.Machine.{Grant, News, Message, ToCoord, Said, commit, Machine}
use Rattle.farm_base.specs.declared.message.Request.{Request}
use Rattle.farm_base.specs.declared.message.Request.TheVariants.{Commit}
use Rattle.events.specs.declared.answer.How.TheVariants as how
use Rattle.protocol.specs.World.{KeptAsk, Open, Holding, Running, Finished, Over, Node, Act, Asks, Asks_tenure, Asks_again, Greets, Takes, Gives_back, Begins, Finishes, Gives_up, Sends_commit, Learns, Drops, Is_denied, Is_recalled, Is_recalled_running, Stores, Forgets, Asks_content, Sends_blob, Restarts, Stops}
use Rattle.protocol.proofs.Base.{in_one, in_append, some_is, none_some, nth_set_cases, nth_push_cases}
use Rattle.protocol.proofs.Steps.{Sound, same_grant}
use Rattle.protocol.proofs.Invariant.{NodeOk, Its}

-- two Commits that are one message are of one life, ticket and news
commit_is : (n : NodeId) (l l' : Life) (t t' : Ticket) (a b : List News) → commit n l t a ≡ commit n l' t' b → (l ≡ l') × (t ≡ t') × (a ≡ b)
commit_is n l l' t t' a b e =
    let y : ToCoord = record { node = n; life = l; request = Commit t a } in
    let z : ToCoord = record { node = n; life = l'; request = Commit t' b } in
    let e' : Said y ≡ Said z = e in
    let same : y ≡ z = cc in
    let requests : Commit t a ≡ Commit t' b = ap (λ (x : ToCoord). x.request) same in
    (ap (λ (x : ToCoord). x.life) same, (cc), (cc))

-- of the Commits of the node in this pool those under one ticket and life are one, and one that waits for its answer is it
pub record OneNews (pool : List Message) (n : NodeId) (x : Node) : Type 0 where
  pub pair : (l : Life) (t : Ticket) (a b : List News) → In (commit n l t a) pool → In (commit n l t b) pool → a ≡ b
  pub last : (place : ℕ) (wants : List Want) (g : Grant) (news a : List News) → nth x.asks place ≡ Some (Finished wants g news) → In (commit n x.life g.ticket a) pool → a ≡ news

-- no Commit of the node is among these
abbrev pub NoCommit : NodeId → List Message → Type 0
NoCommit n sends = (l : Life) (t : Ticket) (a : List News) → In (commit n l t a) sends → ⊥

-- what waits for its answer then did so before, in the same life
abbrev Waited : Node → Node → Type 0
Waited x x' = (x'.life ≡ x.life) × ((place : ℕ) (wants : List Want) (g : Grant) (news : List News) → nth x'.asks place ≡ Some (Finished wants g news) → nth x.asks place ≡ Some (Finished wants g news))

pub quiet_news : (pool sends : List Message) (n : NodeId) (x x' : Node) → OneNews pool n x → NoCommit n sends → Waited x x' → OneNews (pool ++ sends) n x'
quiet_news pool sends n x x' one none same = record {
  pair = λ l t a b i j. one.pair l t a b (old l t a i) (old l t b j);
  last = λ place wants g news a e i. one.last place wants g news a (same.1 place wants g news e) (old x.life g.ticket a (subst (λ z. In (commit n z g.ticket a) (pool ++ sends)) same.0 i));
}
  where
    old : (l : Life) (t : Ticket) (a : List News) → In (commit n l t a) (pool ++ sends) → In (commit n l t a) pool
    old l t a i = elim (in_append (commit n l t a) pool sends i) [ inl j ↦ j | inr j ↦ absurd (none l t a j) ]

abbrev NotFinished : KeptAsk → Type 0
NotFinished s = (wants : List Want) (g : Grant) (news : List News) → s ≢ Finished wants g news

not_commit : (n : NodeId) (z : Message) → ((l : Life) (t : Ticket) (a : List News) → commit n l t a ≢ z) → NoCommit n (z ∷ [])
not_commit n z other l t a i = other l t a (in_one (commit n l t a) z i)

-- a request of another kind
said_other : (n : NodeId) (l' : Life) (r : Request) → ((t : Ticket) (a : List News) → Commit t a ≢ r) → NoCommit n (Said (record { node = n; life = l'; request = r }) ∷ [])
said_other n l' r other l t a i =
    let y : ToCoord = record { node = n; life = l; request = Commit t a } in
    let z : ToCoord = record { node = n; life = l'; request = r } in
    let e : Said y ≡ Said z = in_one (commit n l t a) (Said z) i in
    let same : y ≡ z = cc in
    other t a (ap (λ (x : ToCoord). x.request) same)

-- an ask is set to what waits for no answer
set_waited : (x x' : Node) (place : ℕ) (old new : KeptAsk) → x'.life ≡ x.life → x'.asks ≡ set_nth x.asks place new → nth x.asks place ≡ Some old → NotFinished new → Waited x x'
set_waited x x' place old new life asks at not = (
  life,
  λ q wants g news e. elim (nth_set_cases x.asks place new old q (Finished wants g news) at (subst (λ z. nth z q ≡ Some (Finished wants g news)) asks e)) [
    | inl here ↦ absurd (not wants g news (sym here.1))
    | inr other ↦ other.1
  ],
)

push_waited : (x x' : Node) (new : KeptAsk) → x'.life ≡ x.life → x'.asks ≡ x.asks ++ new ∷ [] → NotFinished new → Waited x x'
push_waited x x' new life asks not = (
  life,
  λ q wants g news e. elim (nth_push_cases x.asks new q (Finished wants g news) (subst (λ z. nth z q ≡ Some (Finished wants g news)) asks e)) [
    | inl old ↦ old
    | inr here ↦ absurd (not wants g news (sym here.1))
  ],
)

same_waited : (x x' : Node) → x'.life ≡ x.life → x'.asks ≡ x.asks → Waited x x'
same_waited x x' life asks = (life, λ q wants g news e. subst (λ z. nth z q ≡ Some (Finished wants g news)) asks e)

module _ (sha : List ℕ → Digest) (m : Machine) (sound : Sound (sha []) m) (n : NodeId) (x : Node) (ok : NodeOk sha m n x) where
  -- grants of two asks of the node under one ticket are of one ask
  one_place : (p q : ℕ) (g h : Grant) → Its m n x.life p g → Its m n x.life q h → g.ticket ≡ h.ticket → p ≡ q
  one_place p q g h its its' e =
      let same : g ≡ h = same_grant (sha []) m sound g h its.0 its'.0 (ap (λ (t : Ticket). t.0) e) in
      sym its.3 ∙ ap (λ (z : Grant). z.ask.0) same ∙ its'.3

  -- an ask that has finished sends its news, now or again
  sends_news : (pool : List Message) (x' : Node) (place : ℕ) (wants : List Want) (g : Grant) (news : List News) → OneNews pool n x → Its m n x.life place g
      → x'.life ≡ x.life
      → ((a : List News) → In (commit n x.life g.ticket a) pool → a ≡ news)
      → ((q : ℕ) (ws : List Want) (h : Grant) (others : List News) → nth x'.asks q ≡ Some (Finished ws h others) → ((q ≡ place) × (h ≡ g) × (others ≡ news)) ⊎ ((q ≢ place) × (nth x.asks q ≡ Some (Finished ws h others))))
      → OneNews (pool ++ commit n x.life g.ticket news ∷ []) n x'
  sends_news pool x' place wants g news one its life before from = record {
    pair = λ l t a b i j. elim (cases l t a i) [
      | inl old ↦ elim (cases l t b j) [
        | inl old' ↦ one.pair l t a b old old'
        | inr new' ↦ before a (subst (λ z. In (commit n z g.ticket a) pool) new'.0 (subst (λ z. In (commit n l z a) pool) new'.1 old)) ∙ sym new'.2
      ]
      | inr new ↦ elim (cases l t b j) [
        | inl old' ↦ new.2 ∙ sym (before b (subst (λ z. In (commit n z g.ticket b) pool) new.0 (subst (λ z. In (commit n l z b) pool) new.1 old')))
        | inr new' ↦ new.2 ∙ sym new'.2
      ]
    ];
    last = λ q ws h others a e i.
        (let j : In (commit n x.life h.ticket a) (pool ++ commit n x.life g.ticket news ∷ []) = subst (λ z. In (commit n z h.ticket a) (pool ++ commit n x.life g.ticket news ∷ [])) life i in
        elim (from q ws h others e) [
          | inl here ↦ elim (cases x.life h.ticket a j) [
            | inl old ↦ before a (subst (λ (z : Grant). In (commit n x.life z.ticket a) pool) here.1 old) ∙ sym here.2
            | inr new ↦ new.2 ∙ sym here.2
          ]
          | inr other ↦ elim (cases x.life h.ticket a j) [
            | inl old ↦ one.last q ws h others a other.1 old
            | inr new ↦ absurd (other.0 (one_place q place h g (ok.states q (Finished ws h others) other.1).0 its new.1))
          ]
        ]);
  }
    where
      cases : (l : Life) (t : Ticket) (a : List News) → In (commit n l t a) (pool ++ commit n x.life g.ticket news ∷ []) → In (commit n l t a) pool ⊎ ((l ≡ x.life) × (t ≡ g.ticket) × (a ≡ news))
      cases l t a i = elim (in_append (commit n l t a) pool (commit n x.life g.ticket news ∷ []) i) [
        | inl old ↦ inl old
        | inr new ↦ inr (commit_is n l x.life t g.ticket a news (in_one (commit n l t a) (commit n x.life g.ticket news) new))
      ]

  -- each act; of an ask that runs no Commit was sent
  pub act_news : (pool sends : List Message) (x' : Node) → ((place : ℕ) (wants : List Want) (g : Grant) (r : Bool) (a : List News) → nth x.asks place ≡ Some (Running wants g r) → In (commit n x.life g.ticket a) pool → ⊥)
      → OneNews pool n x → Act sha pool n x sends x' → OneNews (pool ++ sends) n x'
  act_news pool sends x' fresh one (Asks wants h) = quiet_news pool sends n x x' one (said_other n _ _ (λ t a e. cc)) (push_waited x x' (Open wants _) refl refl (λ ws g news e. cc))
  act_news pool sends x' fresh one (Asks_tenure f h) = quiet_news pool sends n x x' one (said_other n _ _ (λ t a e. cc)) (push_waited x x' (Open _ _) refl refl (λ ws g news e. cc))
  act_news pool sends x' fresh one (Asks_again b wants tenure e) = quiet_news pool sends n x x' one (said_other n _ _ (λ t a e. cc)) (same_waited x x' refl refl)
  act_news pool sends x' fresh one Greets = quiet_news pool sends n x x' one (said_other n _ _ (λ t a e. cc)) (same_waited x x' refl refl)
  act_news pool sends x' fresh one (Takes g wants tenure i p q e) = quiet_news pool sends n x x' one (λ l t a i. i) (set_waited x x' g.ask.0 (Open wants tenure) (Holding wants g _) refl refl e (λ ws h news e. cc))
  act_news pool sends x' fresh one (Gives_back g i p q o k) = quiet_news pool sends n x x' one (said_other n _ _ (λ t a e. cc)) (same_waited x x' refl refl)
  act_news pool sends x' fresh one (Begins wants g r place e all) = quiet_news pool sends n x x' one (λ l t a i. i) (set_waited x x' place (Holding wants g r) (Running wants g r) refl refl e (λ ws h news e. cc))
  act_news pool sends x' fresh one (Finishes wants g r place news store e idle p q s) =
      sends_news pool x' place wants g news one (ok.states place (Running wants g r) e).0 refl
      (λ a i. absurd (fresh place wants g r a e i))
      (λ q ws h others e'. elim (nth_set_cases x.asks place (Finished wants g news) (Running wants g r) q (Finished ws h others) e e') [
        | inl here ↦ (let same : Finished ws h others ≡ Finished wants g news = here.1 in inl (here.0, (cc), (cc)))
        | inr other ↦ inr (other.0, other.1)
      ])
  act_news pool sends x' fresh one (Gives_up wants g r place (inl e) idle) = quiet_news pool sends n x x' one (said_other n _ _ (λ t a e. cc)) (set_waited x x' place (Holding wants g r) (Over (how.Released g.ticket)) refl refl e (λ ws h news e. cc))
  act_news pool sends x' fresh one (Gives_up wants g r place (inr e) idle) = quiet_news pool sends n x x' one (said_other n _ _ (λ t a e. cc)) (set_waited x x' place (Running wants g r) (Over (how.Released g.ticket)) refl refl e (λ ws h news e. cc))
  act_news pool sends x' fresh one (Sends_commit wants g place news e) =
      sends_news pool x' place wants g news one (ok.states place (Finished wants g news) e).0 refl
      (λ a i. one.last place wants g news a e i)
      (λ q ws h others e'. elim (cases_eq q place) [
        | inl here ↦ (let same : Finished ws h others ≡ Finished wants g news = some_is (Finished ws h others) (Finished wants g news) (sym e' ∙ ap (nth x.asks) here ∙ e) in inl (here, (cc), (cc)))
        | inr other ↦ inr (other, e')
      ])
  act_news pool sends x' fresh one (Learns wants g place news versions i e) = quiet_news pool sends n x x' one (λ l t a i. i) (set_waited x x' place (Finished wants g news) (Over (how.Committed g.ticket versions)) refl refl e (λ ws h others e. cc))
  act_news pool sends x' fresh one (Drops wants g place news i e) = quiet_news pool sends n x x' one (λ l t a i. i) (set_waited x x' place (Finished wants g news) (Over (how.Fenced g.ticket)) refl refl e (λ ws h others e. cc))
  act_news pool sends x' fresh one (Is_denied b why wants tenure i e) = quiet_news pool sends n x x' one (λ l t a i. i) (set_waited x x' b.0 (Open wants tenure) (Over (how.Denied why)) refl refl e (λ ws h others e. cc))
  act_news pool sends x' fresh one (Is_recalled wants g place i e) = quiet_news pool sends n x x' one (λ l t a i. i) (set_waited x x' place (Holding wants g _) (Holding wants g _) refl refl e (λ ws h others e. cc))
  act_news pool sends x' fresh one (Is_recalled_running wants g place i e) = quiet_news pool sends n x x' one (λ l t a i. i) (set_waited x x' place (Running wants g _) (Running wants g _) refl refl e (λ ws h others e. cc))
  act_news pool sends x' fresh one (Stores c) = quiet_news pool sends n x x' one (λ l t a i. i) (same_waited x x' refl refl)
  act_news pool sends x' fresh one (Forgets d c e) = quiet_news pool sends n x x' one (λ l t a i. i) (same_waited x x' refl refl)
  act_news pool sends x' fresh one (Asks_content other d) = quiet_news pool sends n x x' one (not_commit n _ (λ l t a e. cc)) (same_waited x x' refl refl)
  act_news pool sends x' fresh one (Sends_blob other c) = quiet_news pool sends n x x' one (not_commit n _ (λ l t a e. cc)) (same_waited x x' refl refl)
  act_news pool sends x' fresh one Restarts = restarted (said_other n _ _ (λ t a e. cc))
    where
      none_at : {P : Type 0} (q : ℕ) (s : KeptAsk) → nth [] q ≡ Some s → P
      none_at zero s e = none_some s e
      none_at (suc q) s e = none_some s e

      restarted : NoCommit n sends → OneNews (pool ++ sends) n x'
      restarted none = record {
        pair = λ l t a b i j. one.pair l t a b (old l t a i) (old l t b j);
        last = λ q ws g news a e i. none_at q (Finished ws g news) e;
      }
        where
          old : (l : Life) (t : Ticket) (a : List News) → In (commit n l t a) (pool ++ sends) → In (commit n l t a) pool
          old l t a i = elim (in_append (commit n l t a) pool sends i) [ inl j ↦ j | inr j ↦ absurd (none l t a j) ]
  act_news pool sends x' fresh one Stops = quiet_news pool sends n x x' one (λ l t a i. i) (same_waited x x' refl refl)
