use Rattle.std.proofs.Common.{◌≡◌, ℕ, List, [], ◌∷◌, ◌++◌, Some, inl, inr, Vec, refl, sym, ap, ◌∙◌, subst, append_assoc, append-nil}
use Rattle.std.specs.Prelude.{codes}
use Rattle.std.specs.Option.{option_map}
use Rattle.std.specs.String.{string_bytes}
use Rattle.std.specs.Global.{Global}
use Rattle.std.specs.Io.KnownBytes.{Appends}
use Rattle.std.proofs.lemmas.List.{nil_from_length}
use Rattle.lists.proofs.Places.{AllZip-push}
use Rattle.answers.specs.Failures.{failure_line}
use Rattle.commands.specs.Acts.{File, AnswersFile, AnswersAll}
use Rattle.answers.specs.declared.command.Command.{Command}
use Rattle.answers.proofs.Texts.{texts-push}
use Rattle.commands.proofs.acts.act.Goals as goal

-- one more file
all_push : (command : Command) (files : List File) (file : File) (text more : List ℕ) → AnswersAll command files text → AnswersFile command file more
    → AnswersAll command (files ++ file ∷ []) (text ++ more)
all_push command files file text more h is =
    (h.0 ++ more ∷ [], AllZip-push (AnswersFile command) files h.0 file more h.1 is, ap (λ (t : List ℕ). t ++ more) h.2 ∙ sym (texts-push h.0 more))

pub loop-name-init : goal.loop-name-init
loop-name-init g c = record {
  can_next = tt;
  is_finite = tt;
  same = refl;
  so_far = ([], c.into_iter-name-iterator.ensures.into_iter_gives.0, ([], tt, c.new-all.ensures.bytes));
}

pub loop-name-preserved : goal.loop-name-preserved
loop-name-preserved g c =
    let so_far = c.loop-name.invariant.so_far in
    let file : File = (c.in-Some.name, c.in-Some.bytes) in
    let bytes : option_map (λ (v : Vec ℕ Global). v.items) c.in-Some.bytes ≡ Some c.in-Some-bytes.bytes.items
    = ap (option_map (λ (v : Vec ℕ Global). v.items)) c.in-Some-bytes.is in
    let pushed = c.in-Ok.ensures.printed in
    record {
      can_next = tt;
      is_finite = tt;
      same = c.loop-name.invariant.same;
      so_far = (
        so_far.0 ++ file ∷ [],
        append_assoc so_far.0 (file ∷ []) c.next.new.self.rest.items ∙ ap (λ (fs : List File). so_far.0 ++ fs) (sym c.in-Some.ensures.steps.0) ∙ so_far.1,
        subst (AnswersAll c.args.command (so_far.0 ++ file ∷ [])) (sym pushed.2)
            (all_push c.args.command so_far.0 file (string_bytes c.loop-name.all) pushed.0 so_far.2 (c.in-Some-bytes.bytes.items, bytes, pushed.1)),
      );
    }

pub returns-clause-done : goal.returns-clause-done
returns-clause-done g c = λ zero.
    let so_far = c.loop-name.invariant.so_far in
    let rest = c.loop-name.name-iterator.rest in
    let none : rest.items ≡ [] = nil_from_length rest.items (sym rest.ok.0 ∙ c.in-None.ensures.steps.0) in
    let all : so_far.0 ≡ c.args.files.items = sym (append-nil so_far.0) ∙ ap (λ (fs : List File). so_far.0 ++ fs) (sym none) ∙ so_far.1 in (
      string_bytes c.loop-name.all,
      subst (λ (fs : List File). AnswersAll c.args.command fs (string_bytes c.loop-name.all)) all so_far.2,
      subst (Appends (g.O.Write.contents c.args.out.now) (g.O.Write.contents c.print.new.writer)) c.as_str-2.ensures.value (c.print.ensures.printed (λ four. cc (zero, four))),
    )

pub returns-clause-refused : goal.returns-clause-refused
returns-clause-refused g c = λ one. absurd (let zero = c.print.ensures.status (λ four. cc (one, four)) in cc (one, zero))

pub returns-clause-quiet : goal.returns-clause-quiet
returns-clause-quiet g c = λ done fault. absurd (done (c.print.ensures.status fault))

pub returns-in_default-clause-refused : goal.returns-in_default-clause-refused
returns-in_default-clause-refused g c = λ one.
    let so_far = c.loop-name.invariant.so_far in
    let line = codes "unreadable " ++ string_bytes c.in-Some.name ++ codes "\n" in (
      line,
      record {
        before = so_far.0;
        file = (c.in-Some.name, c.in-Some.bytes);
        after = c.next.new.self.rest.items;
        files_are = sym so_far.1 ∙ ap (λ (fs : List File). so_far.0 ++ fs) c.in-Some.ensures.steps.0;
        answered = (string_bytes c.loop-name.all, so_far.2);
        fault = inl (c.in_default.is, refl);
      },
      subst (λ (e : _). Appends (g.E.Write.contents e) (g.E.Write.contents c.print_unreadable.new.err) line) c.loop-name.invariant.same
          (subst (λ (n : List ℕ). Appends (g.E.Write.contents c.loop-name.err) (g.E.Write.contents c.print_unreadable.new.err) (codes "unreadable " ++ n ++ codes "\n"))
          c.as_str.ensures.value (c.print_unreadable.ensures.printed one)),
    )

pub returns-in-Err-clause-refused : goal.returns-in-Err-clause-refused
returns-in-Err-clause-refused g c = λ one.
    let so_far = c.loop-name.invariant.so_far in
    let bytes : option_map (λ (v : Vec ℕ Global). v.items) c.in-Some.bytes ≡ Some c.in-Some-bytes.bytes.items
    = ap (option_map (λ (v : Vec ℕ Global). v.items)) c.in-Some-bytes.is in (
      failure_line c.in-Err.failure,
      record {
        before = so_far.0;
        file = (c.in-Some.name, c.in-Some.bytes);
        after = c.next.new.self.rest.items;
        files_are = sym so_far.1 ∙ ap (λ (fs : List File). so_far.0 ++ fs) c.in-Some.ensures.steps.0;
        answered = (string_bytes c.loop-name.all, so_far.2);
        fault = inr (c.in-Some-bytes.bytes.items, c.in-Err.failure, bytes, c.in-Err.ensures.refused, c.print_failure.ensures.refused one, refl);
      },
      subst (λ (e : _). Appends (g.E.Write.contents e) (g.E.Write.contents c.print_failure.new.err) (failure_line c.in-Err.failure)) c.loop-name.invariant.same
          (c.print_failure.ensures.printed one),
    )
