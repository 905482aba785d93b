-- The bytes of an op without its inputs are an op of the same kind.
use Rattle.std.proofs.Common.{◌≡◌, ℕ, ◌≤◌, Bool, true, false, cond, not, eqb, ltb, List, [], ◌∷◌, ◌++◌, length, length-append, None, Result, Ok, Err, refl, sym, ap, subst, ◌∙◌, inl, inr, arith}
use Rattle.std.specs.Prelude.{filter_map}
use Rattle.std.specs.List.{AllByRecursion}
use Rattle.std.specs.Result.{IsOk, result_unwrap_or}
use Rattle.std.proofs.lemmas.Bool.{cases_Bool, eqb-true}
use Rattle.protowire.specs.declared.refusal.WireRefusal.{WireRefusal}
use Rattle.protowire.specs.Fields.{Entry, Spelled, IsField, message, AreFields}
use Rattle.codec.specs.Steps.{◌>>=◌}
use Rattle.protowire.specs.Reading.{fields_of}
use Rattle.protowire.specs.Lookups.{Member, member_in, bodies, last_run, last_member}
use Rattle.codec.proofs.Steps.{bind_ok, ok_is}
use Rattle.protowire.proofs.FieldLaws.{fields_took, fields_again}
use Rattle.opsproto.specs.declared.refusal.OpRefusal.{OpRefusal}
use Rattle.opsproto.specs.declared.refusal.OpRefusal.TheVariants.{TooLarge}
use Rattle.opsproto.specs.declared.op.Kind.{Kind}
use Rattle.opsproto.specs.declared.op.Kind.TheVariants.{Bare}
use Rattle.opsproto.specs.Refusals.{wire}
use Rattle.opsproto.specs.Texts.{each_checked, input_checked}
use Rattle.opsproto.specs.Scalars.{Text}
use Rattle.opsproto.specs.Reading.{says, entries_of, each_of, input_of}
use Rattle.opsproto.specs.Ops.{OpParts, members, kind_of, kept, op_of, kind_checked, op_checked, op_read, limit, op_at, op_in, stripped_of, IsOp, kind_read}

-- whether a field is an input
abbrev is_input : Spelled → Bool
is_input f = eqb f.entry.number 1

kept_bodies : (fs : List Spelled) → bodies 1 (says (kept fs)) ≡ []
kept_bodies [] = refl
kept_bodies (f ∷ fs) =
    elim (cases_Bool (is_input f)) [
      | inl e ↦ rw e (kept_bodies fs)
      | inr e ↦ rw (e, e) (kept_bodies fs)
    ]

pub no_member : (e : Entry) → e.number ≡ 1 → member_in members e ≡ None
no_member e h = rw h refl

kept_members : (fs : List Spelled) → filter_map (member_in members) (says (kept fs)) ≡ filter_map (member_in members) (says fs)
kept_members [] = refl
kept_members (f ∷ fs) =
    elim (cases_Bool (is_input f)) [
      | inl e ↦ rw (e, no_member f.entry (eqb-true f.entry.number 1 e)) (kept_members fs)
      | inr e ↦ rw (e, kept_members fs) refl
    ]

kept_kept : (fs : List Spelled) → kept (kept fs) ≡ kept fs
kept_kept [] = refl
kept_kept (f ∷ fs) =
    elim (cases_Bool (is_input f)) [
      | inl e ↦ rw e (kept_kept fs)
      | inr e ↦ rw (e, e) (ap (λ (xs : List Spelled). f ∷ xs) (kept_kept fs))
    ]

kept_each : (fs : List Spelled) → AllByRecursion IsField fs → AllByRecursion IsField (kept fs)
kept_each [] each = tt
kept_each (f ∷ fs) each =
    elim (cases_Bool (is_input f)) [
      | inl e ↦ rw e (kept_each fs each.1)
      | inr e ↦ rw e (each.0, kept_each fs each.1)
    ]

pub stripped_read : (fs : List Spelled) (kind : Kind Text) → AllByRecursion IsField fs → kind_of (last_member members (says fs)) ≡ Ok kind
    → op_of (message (kept fs)) ≡ Ok (record { inputs = []; kind = kind; stripped = message (kept fs) })
unfolding op_of
stripped_read fs kind each is =
    let read : fields_of (message (kept fs)) ≡ Ok (kept fs) = fields_again (message (kept fs)) (kept fs) (record { each = kept_each fs each; joined = refl }) in
    let same : kind_of (last_member members (says (kept fs))) ≡ Ok kind = ap (λ (ms : List Member). kind_of (last_run ms)) (kept_members fs) ∙ is in
    rw (read, kept_bodies fs, same, kept_kept fs) refl

-- what was read of an op
pub record OpTook (text : List ℕ) (op : OpParts) : Type 0 where
  pub fields : List Spelled
  pub are : AreFields text fields
  pub inputs : each_of input_of (bodies 1 (says fields)) ≡ Ok op.inputs
  pub kind : kind_of (last_member members (says fields)) ≡ Ok op.kind
  pub stripped : op.stripped ≡ message (kept fields)

pub op_took : (text : List ℕ) (op : OpParts) → op_of text ≡ Ok op → OpTook text op
unfolding op_of
op_took text op e =
    let a = bind_ok (fields_of text) (λ fs. each_of input_of (bodies 1 (says fs)) >>= λ inputs. kind_of (last_member members (says fs)) >>= λ kind. Ok (record { inputs = inputs; kind = kind; stripped = message (kept fs) })) op e in
    let b = bind_ok (each_of input_of (bodies 1 (says a.0))) (λ inputs. kind_of (last_member members (says a.0)) >>= λ kind. Ok (record { inputs = inputs; kind = kind; stripped = message (kept a.0) })) op a.2 in
    let c = bind_ok (kind_of (last_member members (says a.0))) (λ kind. Ok (record { inputs = b.0; kind = kind; stripped = message (kept a.0) })) op b.2 in
    let made : OpParts = record { inputs = b.0; kind = c.0; stripped = message (kept a.0) } in
    subst (λ (x : OpParts). OpTook text x) (ok_is {E = WireRefusal} made op c.2)
    (record { fields = a.0; are = fields_took text a.0 a.1; inputs = b.1; kind = c.1; stripped = refl })

pub is_op : (text : List ℕ) (op : OpParts) (kind : Kind Text) → op_of text ≡ Ok op → kind_checked op.kind ≡ Ok kind → IsOp op.stripped kind
unfolding op_read op_checked
is_op text op kind e checked =
    let t = op_took text op e in
    let alone : op_of op.stripped ≡ Ok (record { inputs = []; kind = op.kind; stripped = op.stripped }) =
    rw t.stripped (stripped_read t.fields op.kind t.are.each t.kind) in
    rw (alone, checked) refl

-- ---- an op whose stripped bytes are all of its bytes

kept_shorter : (fs : List Spelled) → length (message (kept fs)) ≤ length (message fs)
kept_shorter [] = omega arith
kept_shorter (f ∷ fs) = by_input (kept_shorter fs) (is_input f)
  where
    by_input : length (message (kept fs)) ≤ length (message fs) → (b : Bool) → length (message (cond (not b) (f ∷ kept fs) (kept fs))) ≤ length (message (f ∷ fs))
    by_input shorter true = omega (arith, shorter, length-append f.text (message fs))
    by_input shorter false = omega (arith, shorter, length-append f.text (message fs), length-append f.text (message (kept fs)))

left_out : (text kept whole : List ℕ) → length kept ≤ length whole → (length kept ≡ length whole → kept ≡ whole) → length kept ≡ length (text ++ whole) → kept ≡ text ++ whole
left_out [] kept whole shorter is same = is same
left_out (b ∷ text) kept whole shorter is same = absurd (omega (arith, shorter, same, length-append text whole))

-- nothing is left out where as many bytes are left
kept_whole : (fs : List Spelled) → length (message (kept fs)) ≡ length (message fs) → message (kept fs) ≡ message fs
kept_whole [] same = refl
kept_whole (f ∷ fs) same = by_input (kept_whole fs) (is_input f) same
  where
    by_input : (length (message (kept fs)) ≡ length (message fs) → message (kept fs) ≡ message fs) → (b : Bool)
        → length (message (cond (not b) (f ∷ kept fs) (kept fs))) ≡ length (message (f ∷ fs)) → message (cond (not b) (f ∷ kept fs) (kept fs)) ≡ message (f ∷ fs)
    by_input whole true same = left_out f.text (message (kept fs)) (message fs) (kept_shorter fs) whole same
    by_input whole false same = ap (λ (rest : List ℕ). f.text ++ rest) (whole (omega (arith, same, length-append f.text (message fs), length-append f.text (message (kept fs)))))

-- ---- the stripped bytes alone

wire_ok : (r : Result OpParts WireRefusal) (op : OpParts) → wire r ≡ Ok op → r ≡ Ok op
wire_ok (Ok x) op e = ap (λ (y : OpParts). Ok y) (ok_is {E = OpRefusal} x op e)
wire_ok (Err d) op e = absurd cc

fits : (b : Bool) (r : Result OpParts OpRefusal) (op : OpParts) → cond b (Err TooLarge) r ≡ Ok op → r ≡ Ok op
fits true r op e = absurd cc
fits false r op e = e

-- what was checked of an op
checked_parts : (raw op : OpParts) → op_checked raw ≡ Ok op → (kind_checked raw.kind ≡ Ok op.kind) × (raw.stripped ≡ op.stripped)
unfolding op_checked
checked_parts raw op e =
    let a = bind_ok (each_checked input_checked raw.inputs) (λ inputs. kind_checked raw.kind >>= λ kind. Ok (record { inputs = inputs; kind = kind; stripped = raw.stripped })) op e in
    let b = bind_ok (kind_checked raw.kind) (λ kind. Ok (record { inputs = a.0; kind = kind; stripped = raw.stripped })) op a.2 in
    let made : OpParts = record { inputs = a.0; kind = b.0; stripped = raw.stripped } in
    let same : made ≡ op = ok_is {E = OpRefusal} made op b.2 in
    (b.1 ∙ ap (λ (o : OpParts). Ok o.kind) same, ap (λ (o : OpParts). o.stripped) same)

-- the op of some bytes: what was read of them, and what was checked of that
pub record OpHeld (text : List ℕ) (op : OpParts) : Type 0 where
  pub raw : OpParts
  pub took : OpTook text raw
  pub kind : kind_checked raw.kind ≡ Ok op.kind
  pub stripped : op.stripped ≡ message (kept took.fields)

pub op_held : (text : List ℕ) (op : OpParts) → op_at text ≡ Ok op → OpHeld text op
unfolding op_at op_read
op_held text op e =
    let read = fits (ltb limit (length text)) (op_read text) op e in
    let a = bind_ok (wire (op_of text)) op_checked op read in
    let took = op_took text a.0 (wire_ok (op_of text) a.0 a.1) in
    let parts = checked_parts a.0 op a.2 in
    record { raw = a.0; took = took; kind = parts.0; stripped = sym parts.1 ∙ took.stripped }

op_stripped : (text stripped : List ℕ) (op : OpParts) → op_at text ≡ Ok op → stripped_of text ≡ Ok stripped → stripped ≡ op.stripped
op_stripped text stripped op e s =
    let held = op_held text op e in
    let fields = held.took.fields in
    let again : stripped_of text ≡ Ok (message (kept fields)) = rw (fields_again text fields held.took.are) refl in
    ok_is {E = WireRefusal} stripped (message (kept fields)) (sym s ∙ again) ∙ sym held.stripped

-- an op whose stripped bytes are as many as its bytes
pub stripped_whole : (text : List ℕ) (op : OpParts) → op_at text ≡ Ok op → length op.stripped ≡ length text → op.stripped ≡ text
stripped_whole text op e same =
    let held = op_held text op e in
    let fields = held.took.fields in
    let joined = held.took.are.joined in
    let lengths : length (message (kept fields)) ≡ length (message fields) = ap (λ (bytes : List ℕ). length bytes) (sym held.stripped) ∙ same ∙ ap (λ (bytes : List ℕ). length bytes) joined in
    held.stripped ∙ kept_whole fields lengths ∙ sym joined

unwrapped : (r : Result OpParts OpRefusal) (other : OpParts) → IsOk r → r ≡ Ok (result_unwrap_or r other)
unwrapped (Ok op) other h = refl
unwrapped (Err e) other h = absurd cc

-- bytes that spell an op spell the op of these bytes
pub spells : (text : List ℕ) → IsOk (op_at text) → op_at text ≡ Ok (op_in text)
spells text h = unwrapped (op_at text) (record { inputs = []; kind = Bare; stripped = [] }) h

-- the op of some bytes has their stripped bytes
pub stripped_is : (text stripped : List ℕ) → IsOk (op_at text) → stripped_of text ≡ Ok stripped → stripped ≡ (op_in text).stripped
stripped_is text stripped h s = op_stripped text stripped (op_in text) (spells text h) s

-- so is its kind, read alone
pub kind_is : (text : List ℕ) → IsOk (op_at text) → kind_read text ≡ Ok (op_in text).kind
unfolding entries_of
kind_is text h =
    let held = op_held text (op_in text) (spells text h) in
    let fields = held.took.fields in
    rw (fields_again text fields held.took.are, held.took.kind) held.kind

-- the stripped bytes can be read
pub stripped_reads : (text : List ℕ) → IsOk (op_at text) → stripped_of text ≡ Ok (op_in text).stripped
stripped_reads text h =
    let held = op_held text (op_in text) (spells text h) in
    let fields = held.took.fields in
    rw (fields_again text fields held.took.are) (ap (λ (bytes : List ℕ). Ok bytes) (sym held.stripped))
