use Rattle.std.proofs.Common.{◌≡◌, ◌++◌, ◌<◌, ℕ, List, drop, length, inl, inr, refl, sym, ap, ◌∙◌, subst, get_or, Fits, w8, arith}
use Rattle.std.proofs.lemmas.Bool.{true≢false}
use Rattle.std.proofs.lemmas.List.{take-append-drop}
use Rattle.std.proofs.lemmas.Nat.{be_bytes_8}
use Rattle.names.specs.Digests.{IsBytes}
use Rattle.codec.proofs.Fronts.{IsBytes-drop, IsBytes-take}
use Rattle.filekeeper.specs.Framing.{check_of, HasHead}
use Rattle.recordparts.specs.Spelling.{number64}
use Rattle.filekeeper.proofs.FramingLemmas.{eight, three_eights, framed_by}
use Rattle.filekeeper.proofs.framing.first_entry.Goals as goal

are_bytes : (bytes : List ℕ) → ((i : ℕ) → Fits w8 (get_or bytes i 0)) → IsBytes bytes
are_bytes bytes fits i = omega (arith, fits i)

pub returns-then-not-are_same-clause-fault : goal.returns-then-not-are_same-clause-fault
returns-then-not-are_same-clause-fault c =
    let name = c.in-Some.ensures.cases in
    let len = c.in-Some-split_first_chunk.ensures.cases in
    let check = c.in-Some-split_first_chunk-2.ensures.cases in
    let head = three_eights c.args.bytes.now c.in-Some.name.now c.in-Some-split_first_chunk.len.now c.in-Some-split_first_chunk-2.check.now c.in-Some.rest.now c.in-Some-split_first_chunk.rest.now c.in-Some-split_first_chunk-2.rest.now
    (eight _ _ _ name.0 name.1 name.2) (eight _ _ _ len.0 len.1 len.2) (eight _ _ _ check.0 check.1 check.2) in (
      record {
        name = c.in-Some.name.now;
        len = c.in-Some-split_first_chunk.len.now;
        check = c.in-Some-split_first_chunk-2.check.now;
        behind = c.in-Some-split_first_chunk-2.rest.now;
        head = head;
        wrong = λ e. true≢false (sym (c.are_same.ensures.1 (e ∙ sym c.check_of.ensures)) ∙ c.if-not-are_same.true);
      },
      refl,
    )

pub returns-then-not-are_same-2-clause-none : goal.returns-then-not-are_same-2-clause-none
returns-then-not-are_same-2-clause-none c none =
    let name = c.in-Some.ensures.cases in
    let len = c.in-Some-split_first_chunk.ensures.cases in
    let check = c.in-Some-split_first_chunk-2.ensures.cases in
    let head = three_eights c.args.bytes.now c.in-Some.name.now c.in-Some-split_first_chunk.len.now c.in-Some-split_first_chunk-2.check.now c.in-Some.rest.now c.in-Some-split_first_chunk.rest.now c.in-Some-split_first_chunk-2.rest.now
    (eight _ _ _ name.0 name.1 name.2) (eight _ _ _ len.0 len.1 len.2) (eight _ _ _ check.0 check.1 check.2) in
    let checked : c.in-Some-split_first_chunk-2.check.now ≡ check_of c.in-Some.name.now c.in-Some-split_first_chunk.len.now = c.are_same.ensures.0 c.if-not-are_same.false ∙ c.check_of.ensures in
    inr (record {
      name = c.in-Some.name.now;
      len = c.in-Some-split_first_chunk.len.now;
      behind = c.in-Some-split_first_chunk-2.rest.now;
      head = subst (λ k. HasHead c.args.bytes.now c.in-Some.name.now c.in-Some-split_first_chunk.len.now k c.in-Some-split_first_chunk-2.rest.now) checked head;
      other = elim c.then-not-are_same-2.either [
        | inl differs ↦ inl (λ e. true≢false (sym (c.are_same-2.ensures.1 (e ∙ sym c.name_of.ensures)) ∙ differs))
        | inr cut ↦ inr (subst (λ n. length c.in-Some-split_first_chunk-2.rest.now < n) c.from_be_bytes-len.ensures cut.1)
      ];
    })

pub returns-clause-entry : goal.returns-clause-entry
returns-clause-entry c =
    let name = c.in-Some.ensures.cases in
    let len = c.in-Some-split_first_chunk.ensures.cases in
    let check = c.in-Some-split_first_chunk-2.ensures.cases in
    let head = three_eights c.args.bytes.now c.in-Some.name.now c.in-Some-split_first_chunk.len.now c.in-Some-split_first_chunk-2.check.now c.in-Some.rest.now c.in-Some-split_first_chunk.rest.now c.in-Some-split_first_chunk-2.rest.now
    (eight _ _ _ name.0 name.1 name.2) (eight _ _ _ len.0 len.1 len.2) (eight _ _ _ check.0 check.1 check.2) in
    let checked : c.in-Some-split_first_chunk-2.check.now ≡ check_of c.in-Some.name.now c.in-Some-split_first_chunk.len.now = c.are_same.ensures.0 c.if-not-are_same.false ∙ c.check_of.ensures in
    let behind : c.in-Some-split_first_chunk-2.rest.now ≡ c.split_at.result.0.now ++ c.split_at.result.1.now =
    sym (take-append-drop c.from_be_bytes-len.result c.in-Some-split_first_chunk-2.rest.now)
    ∙ ap (λ zs. zs ++ drop c.from_be_bytes-len.result c.in-Some-split_first_chunk-2.rest.now) (sym c.split_at.ensures.front)
    ∙ ap (λ zs. c.split_at.result.0.now ++ zs) (sym c.split_at.ensures.back) in
    let fits : IsBytes c.in-Some-split_first_chunk.len.now =
    subst IsBytes (sym len.0) (IsBytes-take 8 c.in-Some.rest.now (subst IsBytes (sym name.1) (IsBytes-drop 8 c.args.bytes.now (are_bytes c.args.bytes.now c.type_inv.bytes)))) in
    let told : number64 (length c.split_at.result.0.now) ≡ c.in-Some-split_first_chunk.len.now =
    be_bytes_8 c.in-Some-split_first_chunk.len.now (length c.split_at.result.0.now) head.len_len fits (c.split_at.ensures.front_len ∙ c.from_be_bytes-len.ensures) in
    framed_by c.args.whole.now c.args.bytes.now c.in-Some.name.now c.in-Some-split_first_chunk.len.now c.split_at.result.0.now c.split_at.result.1.now
    (subst (λ k. HasHead c.args.bytes.now c.in-Some.name.now c.in-Some-split_first_chunk.len.now k (c.split_at.result.0.now ++ c.split_at.result.1.now)) checked
    (subst (λ zs. HasHead c.args.bytes.now c.in-Some.name.now c.in-Some-split_first_chunk.len.now c.in-Some-split_first_chunk-2.check.now zs) behind head))
    (c.are_same-2.ensures.0 c.if-not-are_same-2.false ∙ c.name_of.ensures) told
