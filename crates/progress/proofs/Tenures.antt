-- A node has one tenure of a folder at a time, and what it was granted is what it asked for.
use Rattle.std.proofs.Common.{◌≡◌, ℕ, zero, suc, false, true, ◌+◌, ◌<◌, List, [], ◌∷◌, ◌++◌, ◌⊎◌, length, Bool, Some, refl, sym, ◌∙◌, ap, subst, inl, inr, arith}
use Rattle.std.specs.Prelude.{⊤}
use Rattle.std.proofs.lemmas.Bool.{cases_eq}
use Rattle.farm_base.specs.Kinds.{is_tenure}
use Rattle.farm_base.specs.declared.message.FromCoord.TheVariants as told
use Rattle.farm_base.specs.declared.message.Request.{Request}
use Rattle.farm_base.specs.declared.message.Request.TheVariants.{Hello, Acquire, Commit, Release}
use Rattle.events.specs.declared.answer.How.{How}
use Rattle.events.specs.declared.answer.How.TheVariants as how
use Rattle.protocol.specs.Lists.{In, put, nth, set_nth}
use Rattle.protocol.specs.Names.{Shared, NodeId, Life, Ask, Digest, Want, FolderName, tenure_wants}
use Rattle.protocol.specs.Machine.{Said, Told, Message, FromCoord, ToCoord, Grant, Granted, Machine, acquire, Step, Grants, Ends, Prunes, Sees, Retires, Parks, Unparks, Raises, Steps, No_step, One_more}
use Rattle.protocol.specs.World.{KeptAsk, Open, Holding, Running, Finished, Over, World, Node, IsTenureOf, Act, Asks, Asks_tenure, Asks_again, Greets, Takes, Gives_back, Begins, Finishes, Gives_up, Sends_commit, Learns, Drops, Is_denied, Is_recalled, Is_recalled_running, Stores, Forgets, Asks_content, Sends_blob, Restarts, Stops, Move, Node_moves, Machine_moves, Machine_says, Fails, Recovers, Moves, Still, Then, start}
use Rattle.protocol.proofs.Base.{in_left, in_append, in_one, some_is, none_some, put_all, put_same, nth_set_cases, nth-set_same, nth-set_other, nth-append, nth-push, nth_push_cases, request_is}
use Rattle.progress.proofs.Keeping.{AreKept, kept_all}
use Rattle.progress.proofs.Giving.{granted_is}

-- the ask was made with these wants
abbrev pub Wanted : KeptAsk → List Want → Bool → Type 0
Wanted (Open ws t) wants tenure = (ws ≡ wants) × (t ≡ tenure)
Wanted (Holding ws g r) wants tenure = (ws ≡ wants) × (is_tenure g.kind ≡ tenure)
Wanted (Running ws g r) wants tenure = (ws ≡ wants) × (is_tenure g.kind ≡ tenure)
Wanted (Finished ws g news) wants tenure = (ws ≡ wants) × (is_tenure g.kind ≡ tenure)
Wanted (Over ending) wants tenure = ⊤

abbrev pub Asked : Node → Life → ℕ → List Want → Bool → Type 0
Asked x l a wants tenure = (l.0 < x.life.0) ⊎ ((x.life ≡ l) × ((st : KeptAsk) × (nth x.asks a ≡ Some st) × Wanted st wants tenure))

abbrev pub OneTenure : List KeptAsk → Type 0
OneTenure asks = (f : FolderName) (a b : ℕ) (st st' : KeptAsk) → nth asks a ≡ Some st → nth asks b ≡ Some st' → IsTenureOf f st → IsTenureOf f st' → a ≡ b

abbrev WasWanted : List Message → Grant → Type 0
WasWanted pool g = (wants : List Want) × In (acquire g.node g.life g.ask wants (is_tenure g.kind)) pool

pub record AreWanted (w : World) : Type 0 where
  pub made : (g : Grant) → In (Granted g) w.machine.made → WasWanted w.pool g
  pub kept : (m : Machine) → w.down ≡ Some m → (g : Grant) → In (Granted g) m.made → WasWanted w.pool g
  pub asked : (n : NodeId) (l : Life) (a : Ask) (wants : List Want) (tenure : Bool) → In (acquire n l a wants tenure) w.pool → Asked (w.nodes n.0) l a.0 wants tenure
  pub one : (n : ℕ) → OneTenure (w.nodes n).asks

-- ---- lists of asks

set_one : (asks : List KeptAsk) (place : ℕ) (x old : KeptAsk) → nth asks place ≡ Some old → ((f : FolderName) → IsTenureOf f x → IsTenureOf f old) → OneTenure asks → OneTenure (set_nth asks place x)
set_one asks place x old was less one f a b st st' e e' t t' =
    let from = back a st e t in
    let from' = back b st' e' t' in
    one f a b from.0 from'.0 from.1 from'.1 from.2 from'.2
  where
    back : (c : ℕ) (s : KeptAsk) → nth (set_nth asks place x) c ≡ Some s → IsTenureOf f s → (s' : KeptAsk) × (nth asks c ≡ Some s') × IsTenureOf f s'
    back c s g u = elim (nth_set_cases asks place x old c s was g) [
      | inl q ↦ (old, ap (nth asks) q.0 ∙ was, less f (subst (IsTenureOf f) q.1 u))
      | inr q ↦ (s, q.1, u)
    ]

push_one : (asks : List KeptAsk) (x : KeptAsk) → ((f : FolderName) → IsTenureOf f x → (a : ℕ) (st : KeptAsk) → nth asks a ≡ Some st → IsTenureOf f st → ⊥) → OneTenure asks → OneTenure (asks ++ x ∷ [])
push_one asks x new one f a b st st' e e' t t' = by (nth_push_cases asks x a st e) (nth_push_cases asks x b st' e')
  where
    by : ((nth asks a ≡ Some st) ⊎ ((a ≡ length asks + 1) × (st ≡ x))) → ((nth asks b ≡ Some st') ⊎ ((b ≡ length asks + 1) × (st' ≡ x))) → a ≡ b
    by (inl g) (inl g') = one f a b st st' g g' t t'
    by (inl g) (inr q) = absurd (new f (subst (IsTenureOf f) q.1 t') a st g t)
    by (inr q) (inl g') = absurd (new f (subst (IsTenureOf f) q.1 t) b st' g' t')
    by (inr q) (inr q') = q.0 ∙ sym q'.0

none_one : OneTenure []
none_one f zero b st st' e e' t t' = none_some st e
none_one f (suc a) b st st' e e' t t' = none_some st e

-- ---- what a node does

-- its asks stay those that were asked for
abbrev Goes : List KeptAsk → List KeptAsk → Type 0
Goes asks later = (a : ℕ) (st : KeptAsk) → nth asks a ≡ Some st → (after : KeptAsk) × (nth later a ≡ Some after) × ((wants : List Want) (tenure : Bool) → Wanted st wants tenure → Wanted after wants tenure)

goes_same : (asks : List KeptAsk) → Goes asks asks
goes_same asks a st e = (st, e, λ wants tenure w. w)

goes_push : (asks : List KeptAsk) (x : KeptAsk) → Goes asks (asks ++ x ∷ [])
goes_push asks x a st e = (st, nth-append asks (x ∷ []) a st e, λ wants tenure w. w)

goes_set : (asks : List KeptAsk) (place : ℕ) (x old : KeptAsk) → nth asks place ≡ Some old → ((wants : List Want) (tenure : Bool) → Wanted old wants tenure → Wanted x wants tenure) → Goes asks (set_nth asks place x)
goes_set asks place x old was more a st e = elim (cases_eq a place) [
  | inl same ↦ (
      let is : old ≡ st = some_is old st (sym was ∙ ap (nth asks) (sym same) ∙ e) in
      (x, ap (nth (set_nth asks place x)) same ∙ nth-set_same asks place x old was, λ wants tenure w. more wants tenure (subst (λ z. Wanted z wants tenure) (sym is) w)))
  | inr other ↦ (st, nth-set_other asks place a x other ∙ e, λ wants tenure w. w)
]

-- an open ask that takes a grant asked for a tenure just where the grant is one
abbrev Fits : List Message → NodeId → Node → Type 0
Fits pool n x = (g : Grant) → In (Told (told.Granted g)) pool → g.node ≡ n → g.life ≡ x.life → (wants : List Want) (tenure : Bool) → nth x.asks g.ask.0 ≡ Some (Open wants tenure) → is_tenure g.kind ≡ tenure

abbrev Did : Node → Node → Type 0
Did x y = ((x.life.0 < y.life.0) ⊎ ((y.life ≡ x.life) × Goes x.asks y.asks)) × (OneTenure x.asks → OneTenure y.asks)

still : (x y : Node) → y.life ≡ x.life → y.asks ≡ x.asks → Did x y
still x y l e = (inr (l, subst (Goes x.asks) (sym e) (goes_same x.asks)), subst OneTenure (sym e))

set_did : (x y : Node) (place : ℕ) (new old : KeptAsk) → y.life ≡ x.life → y.asks ≡ set_nth x.asks place new → nth x.asks place ≡ Some old → ((wants : List Want) (tenure : Bool) → Wanted old wants tenure → Wanted new wants tenure) → ((f : FolderName) → IsTenureOf f new → IsTenureOf f old) → Did x y
set_did x y place new old l e was more less = (inr (l, subst (Goes x.asks) (sym e) (goes_set x.asks place new old was more)), λ one. subst OneTenure (sym e) (set_one x.asks place new old was less one))

-- what makes an ask a tenure of a folder, whatever its state
abbrev pub Parts : FolderName → List Want → Bool → Type 0
Parts f wants tenure = (w : Want) × In w wants × (w.folder ≡ f) × (tenure ≡ true)

abbrev pub TenureParts : FolderName → KeptAsk → Type 0
TenureParts f (Open wants tenure) = Parts f wants tenure
TenureParts f (Holding wants g r) = Parts f wants (is_tenure g.kind)
TenureParts f (Running wants g r) = Parts f wants (is_tenure g.kind)
TenureParts f (Finished wants g news) = Parts f wants (is_tenure g.kind)
TenureParts f (Over ending) = ⊥

pub parts_of : (f : FolderName) (st : KeptAsk) → IsTenureOf f st → TenureParts f st
parts_of f (Open wants tenure) (t, (w, i, e)) = (w, i, e, t)
parts_of f (Holding wants g r) (t, (w, i, e)) = (w, i, e, t)
parts_of f (Running wants g r) (t, (w, i, e)) = (w, i, e, t)
parts_of f (Finished wants g news) (t, (w, i, e)) = (w, i, e, t)
parts_of f (Over ending) (t, (w, i, e)) = absurd i

pub of_parts : (f : FolderName) (st : KeptAsk) → TenureParts f st → IsTenureOf f st
of_parts f (Open wants tenure) (w, i, e, t) = (t, (w, i, e))
of_parts f (Holding wants g r) (w, i, e, t) = (t, (w, i, e))
of_parts f (Running wants g r) (w, i, e, t) = (t, (w, i, e))
of_parts f (Finished wants g news) (w, i, e, t) = (t, (w, i, e))
of_parts f (Over ending) p = absurd p

open_plain : (f : FolderName) (wants : List Want) → IsTenureOf f (Open wants false) → ⊥
open_plain f wants t = (let p = parts_of f (Open wants false) t in let bad : false ≡ true = p.3 in cc)

over_plain : (f : FolderName) (ending : How) → IsTenureOf f (Over ending) → ⊥
over_plain f ending t = parts_of f (Over ending) t

tenure_folder : (f folder : FolderName) → IsTenureOf f (Open (tenure_wants folder) true) → f ≡ record folder { mode = Shared }
tenure_folder f folder t = (let p = parts_of f (Open (tenure_wants folder) true) t in sym p.2 ∙ ap (λ (w : Want). w.folder) (in_one p.0 _ p.1))

at_end : (asks : List KeptAsk) (kept : KeptAsk) (a : ℕ) → a ≡ length asks + 1 → nth (asks ++ kept ∷ []) a ≡ Some kept
at_end asks kept a e = subst (λ z. nth (asks ++ kept ∷ []) z ≡ Some kept) (let f : suc (length asks) ≡ a = omega arith in f) (nth-push asks kept)

fit : (x : Node) (l : Life) (a : ℕ) (ws : List Want) (b : Bool) (wants : List Want) (tenure : Bool) → l ≡ x.life → nth x.asks a ≡ Some (Open wants tenure) → Asked x l a ws b → b ≡ tenure
fit x l a ws b wants tenure life e (inl newer) = (let same : l.0 ≡ x.life.0 = ap (λ (z : Life). z.0) life in absurd (omega arith))
fit x l a ws b wants tenure life e (inr (same, (st, f, w))) = (let is : st ≡ Open wants tenure = some_is st (Open wants tenure) (sym f ∙ e) in let v : Wanted (Open wants tenure) ws b = subst (λ z. Wanted z ws b) is w in sym v.1)

module _ (sha : List ℕ → Digest) where
  acts : (pool : List Message) (n : NodeId) (x : Node) (sends : List Message) (y : Node) → Fits pool n x → Act sha pool n x sends y → Did x y
  acts pool n x sends y fits (Asks wants a) = (inr (refl, goes_push x.asks (Open wants false)), push_one x.asks (Open wants false) (λ f t b st e u. open_plain f wants t))
  acts pool n x sends y fits (Asks_tenure folder a) = (inr (refl, goes_push x.asks (Open (tenure_wants folder) true)), push_one x.asks (Open (tenure_wants folder) true) (λ f t b st e u. a b st e (subst (λ z. IsTenureOf z st) (tenure_folder f folder t) u)))
  acts pool n x sends y fits (Asks_again ask wants tenure a) = still x y refl refl
  acts pool n x sends y fits Greets = still x y refl refl
  acts pool n x sends y fits (Takes g wants tenure a b c d) = set_did x y g.ask.0 (Holding wants g false) (Open wants tenure) refl refl d (λ ws t w. (w.0, fits g a b c wants tenure d ∙ w.1)) (λ f t. (let p = parts_of f (Holding wants g false) t in of_parts f (Open wants tenure) (p.0, p.1, p.2, sym (fits g a b c wants tenure d) ∙ p.3)))
  acts pool n x sends y fits (Gives_back g a b c d e) = still x y refl refl
  acts pool n x sends y fits (Begins wants g r place a b) = set_did x y place (Running wants g r) (Holding wants g r) refl refl a (λ ws t w. w) (λ f t. of_parts f (Holding wants g r) (parts_of f (Running wants g r) t))
  acts pool n x sends y fits (Finishes wants g r place news store a b c d e) = set_did x y place (Finished wants g news) (Running wants g r) refl refl a (λ ws t w. w) (λ f t. of_parts f (Running wants g r) (parts_of f (Finished wants g news) t))
  acts pool n x sends y fits (Gives_up wants g r place (inl a) b) = set_did x y place (Over (how.Released g.ticket)) (Holding wants g r) refl refl a (λ ws t w. tt) (λ f t. absurd (over_plain f (how.Released g.ticket) t))
  acts pool n x sends y fits (Gives_up wants g r place (inr a) b) = set_did x y place (Over (how.Released g.ticket)) (Running wants g r) refl refl a (λ ws t w. tt) (λ f t. absurd (over_plain f (how.Released g.ticket) t))
  acts pool n x sends y fits (Sends_commit wants g place news a) = still x y refl refl
  acts pool n x sends y fits (Learns wants g place news versions a b) = set_did x y place (Over (how.Committed g.ticket versions)) (Finished wants g news) refl refl b (λ ws t w. tt) (λ f t. absurd (over_plain f (how.Committed g.ticket versions) t))
  acts pool n x sends y fits (Drops wants g place news a b) = set_did x y place (Over (how.Fenced g.ticket)) (Finished wants g news) refl refl b (λ ws t w. tt) (λ f t. absurd (over_plain f (how.Fenced g.ticket) t))
  acts pool n x sends y fits (Is_denied ask why wants tenure a b) = set_did x y ask.0 (Over (how.Denied why)) (Open wants tenure) refl refl b (λ ws t w. tt) (λ f t. absurd (over_plain f (how.Denied why) t))
  acts pool n x sends y fits (Is_recalled wants g place a b) = set_did x y place (Holding wants g true) (Holding wants g false) refl refl b (λ ws t w. w) (λ f t. of_parts f (Holding wants g false) (parts_of f (Holding wants g true) t))
  acts pool n x sends y fits (Is_recalled_running wants g place a b) = set_did x y place (Running wants g true) (Running wants g false) refl refl b (λ ws t w. w) (λ f t. of_parts f (Running wants g false) (parts_of f (Running wants g true) t))
  acts pool n x sends y fits (Stores c) = still x y refl refl
  acts pool n x sends y fits (Forgets d c a) = still x y refl refl
  acts pool n x sends y fits (Asks_content other d) = still x y refl refl
  acts pool n x sends y fits (Sends_blob other c) = still x y refl refl
  acts pool n x sends y fits Restarts = (inl (omega arith), λ one. none_one)
  acts pool n x sends y fits Stops = still x y refl refl

  said_is : (y z : ToCoord) → Said y ≡ Said z → y ≡ z
  said_is y z e = cc

  acquire_is : (n n' : NodeId) (l l' : Life) (a a' : Ask) (ws ws' : List Want) (t t' : Bool) → acquire n l a ws t ≡ acquire n' l' a' ws' t' → (n ≡ n') × (l ≡ l') × (a ≡ a') × (ws ≡ ws') × (t ≡ t')
  acquire_is n n' l l' a a' ws ws' t t' e =
      let f = said_is (record { node = n; life = l; request = Acquire a ws t }) (record { node = n'; life = l'; request = Acquire a' ws' t' }) e in
      let r = request_is a a' ws ws' t t' (ap (λ (y : ToCoord). y.request) f) in
      (ap (λ (y : ToCoord). y.node) f, ap (λ (y : ToCoord). y.life) f, r.0, r.1, r.2)

  -- a new ask, or one that is open
  one_asked : (n : NodeId) (x y : Node) (ask : Ask) (ws : List Want) (t : Bool) → y.life ≡ x.life → nth y.asks ask.0 ≡ Some (Open ws t) → (n' : NodeId) (l : Life) (a : Ask) (wants : List Want) (tenure : Bool) → In (acquire n' l a wants tenure) (acquire n x.life ask ws t ∷ []) → (n' ≡ n) × Asked y l a.0 wants tenure
  one_asked n x y ask ws t life here n' l a wants tenure i =
      let e = acquire_is n' n l x.life a ask wants ws tenure t (in_one _ _ i) in
      (e.0, inr (life ∙ sym e.1, (Open ws t, ap (λ (z : Ask). nth y.asks z.0) e.2 ∙ here, (sym e.3, sym e.4))))

  its_request : (n n' : NodeId) (l l' : Life) (r r' : Request) → In (Said (record { node = n; life = l; request = r })) (Said (record { node = n'; life = l'; request = r' }) ∷ []) → r ≡ r'
  its_request n n' l l' r r' i = ap (λ (y : ToCoord). y.request) (said_is (record { node = n; life = l; request = r }) (record { node = n'; life = l'; request = r' }) (in_one _ _ i))

  -- what a node asks for is what its ask wants
  says_asked : (pool : List Message) (n : NodeId) (x : Node) (sends : List Message) (y : Node) → Act sha pool n x sends y → (n' : NodeId) (l : Life) (a : Ask) (wants : List Want) (tenure : Bool) → In (acquire n' l a wants tenure) sends → (n' ≡ n) × Asked y l a.0 wants tenure
  says_asked pool n x sends y (Asks ws b) n' l a wants tenure i = one_asked n x y (record { 0 = length x.asks + 1 }) ws false refl (at_end x.asks (Open ws false) (length x.asks + 1) refl) n' l a wants tenure i
  says_asked pool n x sends y (Asks_tenure f b) n' l a wants tenure i = one_asked n x y (record { 0 = length x.asks + 1 }) (tenure_wants f) true refl (at_end x.asks (Open (tenure_wants f) true) (length x.asks + 1) refl) n' l a wants tenure i
  says_asked pool n x sends y (Asks_again ask ws t b) n' l a wants tenure i = one_asked n x y ask ws t refl b n' l a wants tenure i
  says_asked pool n x sends y Greets n' l a wants tenure i = absurd (cc (its_request n' n l _ (Acquire a wants tenure) (Hello) i))
  says_asked pool n x sends y (Takes g ws t b c d e) n' l a wants tenure i = absurd i
  says_asked pool n x sends y (Gives_back g b c d e f) n' l a wants tenure i = absurd (cc (its_request n' n l _ (Acquire a wants tenure) (Release _) i))
  says_asked pool n x sends y (Begins ws g r place b c) n' l a wants tenure i = absurd i
  says_asked pool n x sends y (Finishes ws g r place news store b c d e f) n' l a wants tenure i = absurd (cc (its_request n' n l _ (Acquire a wants tenure) (Commit _ _) i))
  says_asked pool n x sends y (Gives_up ws g r place b c) n' l a wants tenure i = absurd (cc (its_request n' n l _ (Acquire a wants tenure) (Release _) i))
  says_asked pool n x sends y (Sends_commit ws g place news b) n' l a wants tenure i = absurd (cc (its_request n' n l _ (Acquire a wants tenure) (Commit _ _) i))
  says_asked pool n x sends y (Learns ws g place news versions b c) n' l a wants tenure i = absurd i
  says_asked pool n x sends y (Drops ws g place news b c) n' l a wants tenure i = absurd i
  says_asked pool n x sends y (Is_denied ask why ws t b c) n' l a wants tenure i = absurd i
  says_asked pool n x sends y (Is_recalled ws g place b c) n' l a wants tenure i = absurd i
  says_asked pool n x sends y (Is_recalled_running ws g place b c) n' l a wants tenure i = absurd i
  says_asked pool n x sends y (Stores c) n' l a wants tenure i = absurd i
  says_asked pool n x sends y (Forgets d c b) n' l a wants tenure i = absurd i
  says_asked pool n x sends y (Asks_content other d) n' l a wants tenure i = absurd (cc (in_one _ _ i))
  says_asked pool n x sends y (Sends_blob other c) n' l a wants tenure i = absurd (cc (in_one _ _ i))
  says_asked pool n x sends y Restarts n' l a wants tenure i = absurd (cc (its_request n' n l _ (Acquire a wants tenure) (Hello) i))
  says_asked pool n x sends y Stops n' l a wants tenure i = absurd i

  asked_on : (x y : Node) (l : Life) (a : ℕ) (wants : List Want) (tenure : Bool) → Did x y → Asked x l a wants tenure → Asked y l a wants tenure
  asked_on x y l a wants tenure (inl up, one) (inl newer) = inl (omega arith)
  asked_on x y l a wants tenure (inr (life, goes), one) (inl newer) = inl (subst (λ (z : Life). l.0 < z.0) (sym life) newer)
  asked_on x y l a wants tenure (inl up, one) (inr (same, (st, e, w))) = inl (subst (λ (z : Life). z.0 < y.life.0) same up)
  asked_on x y l a wants tenure (inr (life, goes), one) (inr (same, (st, e, w))) = (let r = goes a st e in inr (life ∙ same, (r.0, r.1, r.2 wants tenure w)))

  wanted_more : (pool sends : List Message) (g : Grant) → WasWanted pool g → WasWanted (pool ++ sends) g
  wanted_more pool sends g (wants, i) = (wants, in_left _ pool sends i)

  steps_made : (empty : Digest) (pool : List Message) (m m' : Machine) → Step empty pool m m' → ((g : Grant) → In (Granted g) m.made → WasWanted pool g) → (g : Grant) → In (Granted g) m'.made → WasWanted pool g
  steps_made empty pool m m' (Grants h wants a b c d e f i) old g (inl e') = subst (WasWanted pool) (sym (granted_is g h e')) (wants, a)
  steps_made empty pool m m' (Grants h wants a b c d e f i) old g (inr j) = old g j
  steps_made empty pool m m' (Ends h how a b) old g j = old g j
  steps_made empty pool m m' (Prunes t s a b c) old g (inl e) = absurd (cc e)
  steps_made empty pool m m' (Prunes t s a b c) old g (inr j) = old g j
  steps_made empty pool m m' (Sees node life heard a b c d) old g j = old g j
  steps_made empty pool m m' (Retires node a b c d) old g j = old g j
  steps_made empty pool m m' (Parks p a b) old g j = old g j
  steps_made empty pool m m' (Unparks queue a) old g j = old g j
  steps_made empty pool m m' (Raises c a) old g j = old g j

  many_made : (empty : Digest) (pool : List Message) (m m' : Machine) → Steps empty pool m m' → ((g : Grant) → In (Granted g) m.made → WasWanted pool g) → (g : Grant) → In (Granted g) m'.made → WasWanted pool g
  many_made empty pool m m' (No_step x) old = old
  many_made empty pool m m' (One_more x n y more s) old = steps_made empty pool n m' s (many_made empty pool m n more old)

  -- a grant that is told fits the ask that takes it
  fits_all : (w : World) → AreKept w → AreWanted w → (n : NodeId) → Fits w.pool n (w.nodes n.0)
  fits_all w kept h n g told node life wants tenure e =
      let was = h.made g (kept.told g told) in
      fit (w.nodes n.0) g.life g.ask.0 was.0 (is_tenure g.kind) wants tenure life e (subst (λ (v : NodeId). Asked (w.nodes v.0) g.life g.ask.0 was.0 (is_tenure g.kind)) node (h.asked g.node g.life g.ask was.0 (is_tenure g.kind) was.1))

  told_not : (n : NodeId) (l : Life) (a : Ask) (wants : List Want) (tenure : Bool) (m : FromCoord) → acquire n l a wants tenure ≡ Told m → ⊥
  told_not n l a wants tenure m e = cc e

  moved_wanted : (w w' : World) → Move sha w w' → AreKept w → AreWanted w → AreWanted w'
  moved_wanted w w' (Node_moves node sends x act) kept h =
      let did : Did (w.nodes node.0) x = acts w.pool node (w.nodes node.0) sends x (fits_all w kept h node) act in
      let nodes : ℕ → Node = put node.0 x w.nodes in
      record {
        made = λ g i. wanted_more w.pool sends g (h.made g i);
        kept = λ m e g i. wanted_more w.pool sends g (h.kept m e g i);
        asked = λ n l a wants tenure i. elim (in_append (acquire n l a wants tenure) w.pool sends i) [
          | inl j ↦ put_all (λ j (z : Node). Asked (w.nodes j) l a.0 wants tenure → Asked z l a.0 wants tenure) node.0 x w.nodes (asked_on (w.nodes node.0) x l a.0 wants tenure did) (λ j other old. old) n.0 (h.asked n l a wants tenure j)
          | inr j ↦ (let r = says_asked w.pool node (w.nodes node.0) sends x act n l a wants tenure j in
              subst (λ (v : NodeId). Asked (nodes v.0) l a.0 wants tenure) (sym r.0) (subst (λ (z : Node). Asked z l a.0 wants tenure) (sym (put_same node.0 x w.nodes)) r.1))
        ];
        one = put_all (λ j (z : Node). OneTenure z.asks) node.0 x w.nodes (did.1 (h.one node.0)) (λ j other. h.one j);
      }
  moved_wanted w w' (Machine_moves m up s) kept h = record { made = steps_made (sha []) w.pool w.machine m s h.made; kept = λ x e. none_some x (sym up ∙ e); asked = h.asked; one = h.one }
  moved_wanted w w' (Machine_says telling up s) kept h = record {
    made = λ g i. wanted_more w.pool (Told telling ∷ []) g (h.made g i);
    kept = λ m e g i. wanted_more w.pool (Told telling ∷ []) g (h.kept m e g i);
    asked = λ n l a wants tenure i. elim (in_append (acquire n l a wants tenure) w.pool (Told telling ∷ []) i) [
      | inl j ↦ h.asked n l a wants tenure j
      | inr j ↦ absurd (told_not n l a wants tenure telling (in_one (acquire n l a wants tenure) (Told telling) j))
    ];
    one = h.one;
  }
  moved_wanted w w' (Fails m up s) kept h = record {
    made = h.made;
    kept = λ x e. subst (λ (z : Machine). (g : Grant) → In (Granted g) z.made → WasWanted w.pool g) (some_is m x e) (many_made (sha []) w.pool w.machine m s h.made);
    asked = h.asked;
    one = h.one;
  }
  moved_wanted w w' (Recovers m e) kept h = record { made = h.kept m e; kept = λ x f. none_some x f; asked = h.asked; one = h.one }

  pub wanted_all : (w w' : World) → Moves sha w w' → AreKept w → AreWanted w → AreWanted w'
  wanted_all w w' (Still x) kept h = h
  wanted_all w w' (Then x v y more m) kept h = moved_wanted v w' m (kept_all sha w v more kept) (wanted_all w v more kept h)

  pub wanted_start : AreWanted (start sha)
  wanted_start = record { made = λ g i. absurd i; kept = λ m e. none_some m e; asked = λ n l a wants tenure i. absurd i; one = λ n. none_one }
