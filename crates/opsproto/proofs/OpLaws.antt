-- An op, or a definition, that was written is read again.
use Rattle.std.proofs.Common.{◌≡◌, ℕ, ◌≤◌, List, [], ◌∷◌, ◌++◌, length, map, Result, Ok, Err, refl, sym, ap, subst, ◌∙◌, arith}
use Rattle.std.specs.Prelude.{filter_map, IfOk, OnOk}
use Rattle.std.specs.Global.{Vec}
use Rattle.std.specs.List.{AllByRecursion}
use Rattle.std.proofs.lemmas.Bool.{le-ltb}
use Rattle.std.proofs.lemmas.List.{append-nil}
use Rattle.protowire.specs.declared.refusal.WireRefusal.{WireRefusal}
use Rattle.protowire.specs.Fields.{Spelled, IsField, message, AreFields}
use Rattle.codec.specs.Steps.{◌>>=◌}
use Rattle.protowire.specs.Reading.{fields_of}
use Rattle.protowire.specs.Lookups.{Member, member_in, bodies, last_run, last_member}
use Rattle.protowire.specs.Writing.{bytes_field, spelled_bytes}
use Rattle.codec.proofs.Steps.{bind_ok, ok_is}
use Rattle.protowire.proofs.FieldLaws.{fields_again}
use Rattle.protowire.proofs.WritingLaws.{bytes_is_field}
use Rattle.opsproto.specs.declared.refusal.OpRefusal.{OpRefusal}
use Rattle.opsproto.specs.declared.input.Input.{Input}
use Rattle.opsproto.specs.declared.exec.ExecOp.{ExecOp}
use Rattle.opsproto.specs.declared.definition.Definition.{Definition}
use Rattle.opsproto.specs.declared.op.Kind.{Kind}
use Rattle.opsproto.specs.declared.op.Kind.TheVariants.{Exec}
use Rattle.opsproto.specs.Refusals.{wire}
use Rattle.opsproto.specs.Scalars.{Text}
use Rattle.opsproto.specs.Reading.{says, each_of, input_of, entries_of}
use Rattle.opsproto.specs.Texts.{each_checked, input_checked}
use Rattle.opsproto.specs.Ops.{OpParts, members, kind_of, kept, op_of, kind_checked, op_checked, op_read, limit, op_at, IsOp}
use Rattle.opsproto.specs.Definitions.{most_entries, definition_at}
use Rattle.opsproto.specs.Writing.{each_fields, input_text, exec_text, op_text, definition_text}
use Rattle.opsproto.specs.Written.{IsBody, IsInput, IsExec}
use Rattle.opsproto.proofs.PutLemmas.{message-append}
use Rattle.opsproto.proofs.Parts.{texts, texts-append, texts_each, bodies_again, fields_append, each_is_field, entries_again}
use Rattle.opsproto.proofs.Again.{input_again, exec_again}
use Rattle.opsproto.proofs.Passes.{inputs_pass, exec_passes}
use Rattle.opsproto.proofs.OpLemmas.{stripped_read, OpTook, op_took}

-- ---- an exec op alone

pub exec_is_op : (e : ExecOp Text) → IsExec e → IsOp (bytes_field 2 (exec_text e)) (Exec e)
unfolding op_read op_checked
exec_is_op e is =
    let body = exec_text e in
    let f = spelled_bytes 2 body in
    let each : AllByRecursion IsField (f ∷ []) = (bytes_is_field 2 body (omega arith) (omega arith) is.size, tt) in
    let whole : body ++ [] ≡ body = append-nil body in
    let kind : kind_of (last_member members (says (f ∷ []))) ≡ Ok (Exec e) = rw (whole, exec_again e is) refl in
    let text : message (kept (f ∷ [])) ≡ bytes_field 2 body = append-nil (bytes_field 2 body) in
    let read : op_of (bytes_field 2 body) ≡ Ok (record { inputs = []; kind = Exec e; stripped = bytes_field 2 body }) =
    subst (λ (t : List ℕ). op_of t ≡ Ok (record { inputs = []; kind = Exec e; stripped = t })) text (stripped_read (f ∷ []) (Exec e) each kind) in
    rw (read, exec_passes e is) refl

-- ---- the fields of inputs

input_bodies : (is : List (Input Text)) → AllByRecursion IsInput is → AllByRecursion IsBody (map input_text is)
input_bodies [] valid = tt
input_bodies (i ∷ is) valid = (valid.0.size, input_bodies is valid.1)

inputs_again : (is : List (Input Text)) → AllByRecursion IsInput is → each_of input_of (map input_text is) ≡ Ok is
inputs_again [] valid = refl
inputs_again (i ∷ is) valid = rw (input_again i valid.0, inputs_again is valid.1) refl

inputs_no_member : (parts : List (List ℕ)) (fs : List Spelled) → filter_map (member_in members) (says (each_fields 1 parts ++ fs)) ≡ filter_map (member_in members) (says fs)
unfolding each_fields
inputs_no_member [] fs = refl
inputs_no_member (b ∷ parts) fs = inputs_no_member parts fs

inputs_not_kept : (parts : List (List ℕ)) (fs : List Spelled) → kept (each_fields 1 parts ++ fs) ≡ kept fs
unfolding each_fields
inputs_not_kept [] fs = refl
inputs_not_kept (b ∷ parts) fs = inputs_not_kept parts fs

-- ---- whole ops

wire_ok : {X : Type 0} (r : Result X WireRefusal) (x : X) → wire r ≡ Ok x → r ≡ Ok x
wire_ok (Ok y) x e = ap (λ z. Ok z) (ok_is {E = OpRefusal} y x e)
wire_ok (Err d) x e = absurd cc

none_checked : (is : List (Input Text)) (checked : List (Input Text)) → checked ≡ [] → each_checked input_checked is ≡ Ok checked → is ≡ []
none_checked [] checked nothing e = refl
none_checked (i ∷ is) checked nothing e =
    let a = bind_ok (input_checked i) (λ y. each_checked input_checked is >>= λ ys. Ok (y ∷ ys)) checked e in
    let b = bind_ok (each_checked input_checked is) (λ ys. Ok (a.0 ∷ ys)) checked a.2 in
    absurd (let g = ok_is {E = OpRefusal} (a.0 ∷ b.0) checked b.2 in cc)

none_read : (bodies : List (List ℕ)) → each_of input_of bodies ≡ Ok [] → bodies ≡ []
none_read [] e = refl
none_read (b ∷ bodies) e =
    let a = bind_ok (input_of b) (λ x. each_of input_of bodies >>= λ xs. Ok (x ∷ xs)) [] e in
    let c = bind_ok (each_of input_of bodies) (λ xs. Ok (a.0 ∷ xs)) [] a.2 in
    absurd (let g = ok_is {E = WireRefusal} (a.0 ∷ c.0) [] c.2 in cc)

no_texts : (fs : List Spelled) → bodies 1 (says fs) ≡ [] → texts 1 fs ≡ []
unfolding texts
no_texts fs e = e

-- what an op's stripped bytes are
pub record Alone (stripped : List ℕ) (kind : Kind Text) : Type 0 where
  pub fields : List Spelled
  pub are : AreFields stripped fields
  pub no_inputs : bodies 1 (says fields) ≡ []
  pub raw : Kind Text
  pub is_kind : kind_of (last_member members (says fields)) ≡ Ok raw
  pub passes : kind_checked raw ≡ Ok kind
  pub same : message (kept fields) ≡ stripped

alone_of : (stripped : List ℕ) (kind k : Kind Text) (p : OpParts) → OpTook stripped p → p.inputs ≡ [] → p.stripped ≡ stripped → kind_checked p.kind ≡ Ok k → k ≡ kind → Alone stripped kind
alone_of stripped kind k p t no_inputs same passes is = record {
  fields = t.fields;
  are = t.are;
  no_inputs = none_read (bodies 1 (says t.fields)) (t.inputs ∙ ap (λ xs. Ok xs) no_inputs);
  raw = p.kind;
  is_kind = t.kind;
  passes = passes ∙ ap (λ x. Ok x) is;
  same = sym t.stripped ∙ same;
}

pub alone : (stripped : List ℕ) (kind : Kind Text) → IsOp stripped kind → Alone stripped kind
unfolding op_read op_checked
alone stripped kind is =
    let whole : OpParts = record { inputs = []; kind = kind; stripped = stripped } in
    let a = bind_ok (wire (op_of stripped)) op_checked whole is in
    let p = a.0 in
    let b = bind_ok (each_checked input_checked p.inputs) (λ inputs. kind_checked p.kind >>= λ k. Ok (record { inputs = inputs; kind = k; stripped = p.stripped })) whole a.2 in
    let c = bind_ok (kind_checked p.kind) (λ k. Ok (record { inputs = b.0; kind = k; stripped = p.stripped })) whole b.2 in
    let made : OpParts = record { inputs = b.0; kind = c.0; stripped = p.stripped } in
    let same : made ≡ whole = ok_is {E = OpRefusal} made whole c.2 in
    alone_of stripped kind c.0 p (op_took stripped p (wire_ok (op_of stripped) p a.1))
    (none_checked p.inputs b.0 (ap (λ (o : OpParts). o.inputs) same) b.1) (ap (λ (o : OpParts). o.stripped) same) c.1 (ap (λ (o : OpParts). o.kind) same)

pub op_again : (op : OpParts) → AllByRecursion IsInput op.inputs → IsOp op.stripped op.kind → op_read (op_text op) ≡ Ok op
unfolding op_of op_read op_checked
op_again op valid is =
    let a = alone op.stripped op.kind is in
    let parts = map input_text op.inputs in
    let inputs = each_fields 1 parts in
    let each = fields_append inputs a.fields (each_is_field 1 parts (omega arith, omega arith) (input_bodies op.inputs valid)) a.are.each in
    let joined : op_text op ≡ message (inputs ++ a.fields) = ap (λ (t : List ℕ). message inputs ++ t) a.are.joined ∙ sym (message-append inputs a.fields) in
    let read : fields_of (op_text op) ≡ Ok (inputs ++ a.fields) = fields_again (op_text op) (inputs ++ a.fields) (record { each = each; joined = joined }) in
    let some : texts 1 (inputs ++ a.fields) ≡ parts = simp (texts-append, texts_each, no_texts a.fields a.no_inputs, append-nil) in
    let found : bodies 1 (says (inputs ++ a.fields)) ≡ parts = bodies_again 1 (inputs ++ a.fields) parts some in
    let kind : kind_of (last_member members (says (inputs ++ a.fields))) ≡ Ok a.raw = ap (λ (ms : List Member). kind_of (last_run ms)) (inputs_no_member parts a.fields) ∙ a.is_kind in
    let rest : message (kept (inputs ++ a.fields)) ≡ op.stripped = ap message (inputs_not_kept parts a.fields) ∙ a.same in
    rw (read, found, inputs_again op.inputs valid, kind, rest, inputs_pass op.inputs valid, a.passes) refl

pub op_at_again : (op : OpParts) (text : List ℕ) → text ≡ op_text op → AllByRecursion IsInput op.inputs → IsOp op.stripped op.kind → length text ≤ limit → op_at text ≡ Ok op
unfolding op_at
op_at_again op text e valid is fits =
    rw (le-ltb limit (length text) fits, e) (op_again op valid is)

-- ---- definitions

pub definition_again : (d : Definition) (text : List ℕ) → text ≡ definition_text d → AllByRecursion IsBody d.def → length text ≤ limit → length d.def ≤ most_entries → definition_at text ≡ Ok d
unfolding definition_at
definition_again d text e valid fits few =
    let fs = each_fields 1 d.def in
    let some : texts 1 fs ≡ d.def = simp texts_each in
    let read : entries_of text ≡ Ok (says fs) = rw e (entries_again fs (each_is_field 1 d.def (omega arith, omega arith) valid)) in
    rw (le-ltb limit (length text) fits, read, bodies_again 1 fs d.def some, le-ltb most_entries (length d.def) few) refl

-- ---- as the writers' contracts say it

pub exec_read : {E : Type 0} (e : ExecOp Text) (r : Result (Vec ℕ) E) → IfOk r (λ v. v.items ≡ exec_text e) → OnOk r (IsExec e) → IfOk r (λ v. IsOp (bytes_field 2 v.items) (Exec e))
exec_read e (Ok v) ok valid = rw ok (exec_is_op e valid)
exec_read e (Err d) ok valid = tt
