-- Keepers of the texts of a record in files, and keepers that gather.
use Rattle.std.specs.Prelude.{◌≡◌, ◌⊎◌, ℕ, Bool, true, false, List, [], Option, Some, None, length, take}
use Rattle.filekeeper.specs.Calls.{Called}
use Rattle.filekeeper.specs.Disks.{Files, MayLeave, Leaves}
use Rattle.filekeeper.specs.Settled.{Holds, HoldsAny, HasRead}
use Rattle.saverecord.specs.Keepers.{counted_up}
use Rattle.saverecord.specs.Texts.{Texts, with_text, with_texts}
use Rattle.saverecord.specs.declared.refusal.KeeperRefusal.{KeeperRefusal}
use Rattle.saverecord.specs.declared.refusal.KeeperRefusal.TheVariants.{Fault, OutOfMemory}

-- a keeper in files, as contracts see it
pub record Filed : Type 0 where
  -- the texts that it knows, of which the last entries may be gathered only
  pub texts : Texts
  -- how many of the entries the files are known to hold, behind the whole record
  pub lasting : ℕ
  -- a crash leaves the texts that the files are known to hold, and nothing else
  pub settled : Bool
  -- the calls of the files' device, the newest first
  pub calls : List Called
  -- the number of saves, appends, syncs and loads that failed
  pub failures : ℕ

-- one more failure
abbrev pub failed_once : Filed → Filed
failed_once f = record f { failures = counted_up f.failures }

-- the texts that the files are known to hold
abbrev pub file_texts : Filed → Texts
file_texts f = record f.texts { entries = take f.lasting f.texts.entries }

-- they are known to hold all texts
abbrev pub lasts : Filed → Filed
lasts f = record f { lasting = length f.texts.entries }

-- after these calls, and settled or not
abbrev pub left_by : List Called → Bool → Filed → Filed
left_by calls settled f = record f { calls = calls; settled = settled }

-- a keeper of the texts that files held when they were read: it changed none since, and the files are settled
abbrev pub IsOpened : Filed → Type 0
IsOpened f = HasRead [] f.texts f.calls × (f ≡ left_by f.calls true (lasts f)) × (f.failures ≡ 0)

-- the same; or, where the files were settled, these were called, and are settled or not
abbrev pub MayCall : Filed → Filed → Type 0
MayCall f g = (g ≡ f) ⊎ ((f.settled ≡ true) × (g ≡ left_by g.calls g.settled f))

-- what a crash leaves of kept texts, of which these last: they, and of the entries that were gathered behind them the first ones, or none
pub record IsLeft (lasting kept left : Texts) : Type 0 where
  pub first : List (List ℕ)
  pub rest : List (List ℕ)
  pub left_is : left ≡ with_texts first lasting
  pub kept_is : kept ≡ with_texts rest left

-- whatever files a crash leaves hold all texts
abbrev pub IsDurable : Filed → Type 0
IsDurable f = (files : Files) → MayLeave f.calls files → Holds f.texts files

-- the texts that the files are known to hold, and of the entries that were gathered behind them the first ones, or none
abbrev pub MayLast : Filed → Texts → Type 0
MayLast f texts = IsLeft (file_texts f) f.texts texts

-- from f on, at each moment up to g, a crash leaves files that it might have left at f, or files that hold texts of this kind
abbrev pub LeavesAny : (Texts → Type 0) → Filed → Filed → Type 0
LeavesAny Are f g = Leaves (λ files. MayLeave f.calls files ⊎ HoldsAny Are files) f.calls g.calls

-- which texts are taken to be kept after a save or an append of these over files: it succeeds only where the files are settled, and if it
-- fails they are the old or the new ones, and the failure is counted
abbrev pub SavesTexts : Filed → Texts → Bool → Filed → Type 0
SavesTexts f texts true g = (f.settled ≡ true) × (g ≡ left_by g.calls true (lasts (record f { texts = texts })))
SavesTexts f texts false g = MayCall (failed_once f) g ⊎ ((f.settled ≡ true) × (g ≡ left_by g.calls g.settled (failed_once (lasts (record f { texts = texts })))))

-- a save or an append over files. Whichever texts are taken to be kept then, a crash may leave the old ones, with the first of the entries
-- that were gathered behind them, or the new ones; and once it has succeeded the new ones alone
pub record FileSaves (f : Filed) (texts : Texts) (ok : Bool) (g : Filed) : Type 0 where
  pub changed : SavesTexts f texts ok g
  pub any_moment : LeavesAny (λ left. MayLast f left ⊎ (left ≡ texts)) f g
  pub durable : ok ≡ true → IsDurable g

-- an entry that is gathered over files: these stay as they were, and what they hold
abbrev pub FileGathers : Filed → Texts → Filed → Type 0
FileGathers f texts g = (g ≡ record f { texts = texts }) × (file_texts g ≡ file_texts f)

-- which texts are known to last after a sync over files: it succeeds only where these are settled, and if it fails that is counted, and no
-- texts change
abbrev pub SyncsTexts : Filed → Bool → Filed → Type 0
SyncsTexts f true g = (f.settled ≡ true) × (g ≡ left_by g.calls true (lasts f))
SyncsTexts f false g = MayCall (failed_once f) g

-- a sync over files. A crash leaves what lasted, with the first of the entries that were gathered; and once it has succeeded all texts
pub record FileSyncs (f : Filed) (ok : Bool) (g : Filed) : Type 0 where
  pub changed : SyncsTexts f ok g
  pub any_moment : LeavesAny (MayLast f) f g
  pub durable : ok ≡ true → IsDurable g

-- which texts are known to last after a load over files: if it succeeds these are settled, and a fault is counted
abbrev pub LoadsTexts : Filed → Option KeeperRefusal → Filed → Type 0
LoadsTexts f (Some Fault) g = (g ≡ left_by g.calls g.settled (failed_once f)) ⊎ (g ≡ left_by g.calls g.settled (failed_once (lasts f)))
LoadsTexts f (Some OutOfMemory) g = g ≡ left_by g.calls g.settled (lasts f)
LoadsTexts f None g = g ≡ left_by g.calls true (lasts f)

-- a load over files. A crash leaves what it might have left before, or what lasted, with the first of the entries that were gathered; and
-- once it has succeeded all texts
pub record FileLoads (f : Filed) (refusal : Option KeeperRefusal) (g : Filed) : Type 0 where
  pub changed : LoadsTexts f refusal g
  pub any_moment : LeavesAny (MayLast f) f g
  pub durable : refusal ≡ None → IsDurable g

-- an entry is gathered behind what is kept
pub record GathersEntry {K : Type 0} (kept : K → Texts) (gathering : K → Texts → K → Type 0) (old : K) (texts : Texts)
    (new : K) : Type 0 where
  pub entry : List ℕ
  pub texts_are : texts ≡ with_text entry (kept old)
  pub left : gathering old texts new

-- a save or an append over a keeper that gathers: an entry is gathered, and a whole record saved
abbrev pub GatherSaves : {K : Type 0} → (K → Texts) → (K → Texts → K → Type 0) → (K → Texts → Bool → K → Type 0) → K → Texts → Bool → K → Type 0
GatherSaves kept gathering saving old texts ok new = ((ok ≡ true) × GathersEntry kept gathering old texts new) ⊎ saving old texts ok new
