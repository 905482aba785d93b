use Rattle.std.proofs.Common.{◌≡◌, ◌∙◌, ap, sym, subst, arith, length, List, Bool, ℕ, []}
use Rattle.std.specs.declared.alloc.Global.{Global}
use Rattle.std.specs.declared.vec.Vec.{Vec}
use Rattle.std.proofs.lemmas.List.{length-set}
use Rattle.std.proofs.lemmas.Option.{slice_get_within}
use Rattle.names.specs.declared.digest.Digest.{Digest}
use Rattle.keytable.specs.declared.entry.Progress.TheVariants.{Done}
use Rattle.keytable.specs.declared.table.Table.{Table}
use Rattle.keytable.specs.Marks.{AreMarks}
use Rattle.keytable.specs.Spreading.{Marking}
use Rattle.keytable.specs.Tables.{IsTable}
use Rattle.keytable.proofs.ShapeLemmas.{users_moved}
use Rattle.keytable.proofs.SpreadLemmas.{BeforeSpread, before_failed, before_done, before_other, progress_is, marking_none, whole_marks}
use Rattle.keytable.proofs.UserLemmas.{user_within}
use Rattle.keytable.proofs.marking.settle.Goals as goal
use Rattle.keytable.proofs.marking.settle.Goals.{in-Failed, in-Done, in_default}

pub index-requires : goal.index-requires
index-requires c =
    let out = c.requires.out in
    let within = slice_get_within c.args.table.now.entries.items c.args.number out.0 out.1 in
    let same = ap length (c.set_progress.ensures.entries out.0 out.1) ∙ length-set c.args.table.now.entries.items c.args.number (record out.0 { progress = c.args.progress }) in
    let len = c.set_progress.new.self.entries.ok.0 in
    omega (arith, within, same, len)

pub mark-requires-clause-within : goal.mark-requires-clause-within
mark-requires-clause-within c =
    let out = c.requires.out in
    let within = slice_get_within c.args.table.now.entries.items c.args.number out.0 out.1 in
    let count = c.requires.kept.marked.count in
    omega (arith, within, count)

pub mark_users-requires-clause-within : goal.mark_users-requires-clause-within
mark_users-requires-clause-within c =
    let out = c.requires.out in
    let within = slice_get_within c.args.table.now.entries.items c.args.number out.0 out.1 in
    let count = c.requires.count in
    omega (arith, within, count)

pub mark_users-requires-clause-users : goal.mark_users-requires-clause-users
mark_users-requires-clause-users c place link at =
    let within = user_within c.args.table.now.entries.items c.args.users.now c.requires.users place link at in
    let count = c.requires.kept.marked.count in
    omega (arith, within, count)

pub spread-requires-clause-users : goal.spread-requires-clause-users
spread-requires-clause-users c place link at =
    let within = user_within c.args.table.now.entries.items c.args.users.now c.requires.users place link at in
    let count = c.requires.kept.marked.count in
    let size = c.match-index.auto.marks in
    omega (arith, within, count, size)

pub spread-requires-clause-others : goal.spread-requires-clause-others
spread-requires-clause-others c =
    let es = c.args.table.now.entries.items in
    let n = c.args.number in
    let out = c.requires.out in
    let to = c.args.progress in
    let now = c.set_progress.new.self.entries.items in
    let now_is = c.set_progress.ensures.entries out.0 out.1 in
    let u = c.args.users.now in
    let old = c.args.marks.now in
    let h = c.requires.kept.marked in
    let count_now : length u.lasts.items ≡ length now = c.requires.count ∙ sym (ap length now_is ∙ length-set es n (record out.0 { progress = to })) in
    let users_now = users_moved es n out.0 out.1 to now u now_is c.requires.users in
    let none = marking_none old [] in
    let start = c.requires.todo in
    let before : BeforeSpread now u c.match-index.marks c.match-index.todo.items = elim c.match-index.branch [
      | in-Failed w ↦ (let e = w.mark.ensures in
          let m = subst (λ (xs : List ℕ). Marking old xs w.mark.new.marks w.mark.new.todo.items) start e.marks in
          let is = progress_is es n out.0 out.1 to now now_is out.2 old h u c.requires.users old [] none c.index.result.now c.index.ensures ∙ w.in-Failed.is in
          subst (λ (xs : List Bool). BeforeSpread now u xs c.match-index.todo.items) (sym w.marks-is)
          (subst (λ (v : Vec ℕ Global). BeforeSpread now u w.mark.new.marks v.items) (sym w.todo-is)
          (before_failed es n out.0 out.1 to now now_is out.2 old h u c.requires.users w.mark.new.marks w.mark.new.todo.items m w.in-Failed.field-0 is e.marked e.only)))
      | in-Done w ↦ (let e = w.mark_users.ensures in
          let m = subst (λ (xs : List ℕ). Marking old xs w.mark_users.new.marks w.mark_users.new.todo.items) start e.marks in
          let is = progress_is es n out.0 out.1 to now now_is out.2 old h u c.requires.users old [] none c.index.result.now c.index.ensures ∙ w.in-Done.is ∙ ap (λ (xs : List Digest). Done xs) (sym w.as_slice.ensures) in
          subst (λ (xs : List Bool). BeforeSpread now u xs c.match-index.todo.items) (sym w.marks-is)
          (subst (λ (v : Vec ℕ Global). BeforeSpread now u w.mark_users.new.marks v.items) (sym w.todo-is)
          (before_done es n out.0 out.1 to now now_is out.2 old h u c.requires.users w.mark_users.new.marks w.mark_users.new.todo.items m w.as_slice.result.now is users_now count_now e.marked e.only)))
      | in_default w ↦ (let is = progress_is es n out.0 out.1 to now now_is out.2 old h u c.requires.users old [] none c.index.result.now c.index.ensures in
          let m = subst (λ (xs : List ℕ). Marking old [] old xs) (sym start) none in
          subst (λ (xs : List Bool). BeforeSpread now u xs c.match-index.todo.items) (sym w.marks-is)
          (subst (λ (v : Vec ℕ Global). BeforeSpread now u old v.items) (sym w.todo-is)
          (before_other es n out.0 out.1 to now now_is out.2 old h u c.requires.users old c.args.todo.now.items m (λ fault f. w.in_default.not-Failed fault (sym is ∙ f)) (λ outputs d. w.in_default.not-Done outputs (sym is ∙ d)) (λ k f. f))))
    ] in
    before.spread

pub returns-clause-kept : goal.returns-clause-kept
returns-clause-kept c =
    let es = c.args.table.now.entries.items in
    let n = c.args.number in
    let out = c.requires.out in
    let to = c.args.progress in
    let now = c.set_progress.new.self.entries.items in
    let now_is = c.set_progress.ensures.entries out.0 out.1 in
    let u = c.args.users.now in
    let old = c.args.marks.now in
    let h = c.requires.kept.marked in
    let count_now : length u.lasts.items ≡ length now = c.requires.count ∙ sym (ap length now_is ∙ length-set es n (record out.0 { progress = to })) in
    let users_now = users_moved es n out.0 out.1 to now u now_is c.requires.users in
    let none = marking_none old [] in
    let start = c.requires.todo in
    let before : BeforeSpread now u c.match-index.marks c.match-index.todo.items = elim c.match-index.branch [
      | in-Failed w ↦ (let e = w.mark.ensures in
          let m = subst (λ (xs : List ℕ). Marking old xs w.mark.new.marks w.mark.new.todo.items) start e.marks in
          let is = progress_is es n out.0 out.1 to now now_is out.2 old h u c.requires.users old [] none c.index.result.now c.index.ensures ∙ w.in-Failed.is in
          subst (λ (xs : List Bool). BeforeSpread now u xs c.match-index.todo.items) (sym w.marks-is)
          (subst (λ (v : Vec ℕ Global). BeforeSpread now u w.mark.new.marks v.items) (sym w.todo-is)
          (before_failed es n out.0 out.1 to now now_is out.2 old h u c.requires.users w.mark.new.marks w.mark.new.todo.items m w.in-Failed.field-0 is e.marked e.only)))
      | in-Done w ↦ (let e = w.mark_users.ensures in
          let m = subst (λ (xs : List ℕ). Marking old xs w.mark_users.new.marks w.mark_users.new.todo.items) start e.marks in
          let is = progress_is es n out.0 out.1 to now now_is out.2 old h u c.requires.users old [] none c.index.result.now c.index.ensures ∙ w.in-Done.is ∙ ap (λ (xs : List Digest). Done xs) (sym w.as_slice.ensures) in
          subst (λ (xs : List Bool). BeforeSpread now u xs c.match-index.todo.items) (sym w.marks-is)
          (subst (λ (v : Vec ℕ Global). BeforeSpread now u w.mark_users.new.marks v.items) (sym w.todo-is)
          (before_done es n out.0 out.1 to now now_is out.2 old h u c.requires.users w.mark_users.new.marks w.mark_users.new.todo.items m w.as_slice.result.now is users_now count_now e.marked e.only)))
      | in_default w ↦ (let is = progress_is es n out.0 out.1 to now now_is out.2 old h u c.requires.users old [] none c.index.result.now c.index.ensures in
          let m = subst (λ (xs : List ℕ). Marking old [] old xs) (sym start) none in
          subst (λ (xs : List Bool). BeforeSpread now u xs c.match-index.todo.items) (sym w.marks-is)
          (subst (λ (v : Vec ℕ Global). BeforeSpread now u old v.items) (sym w.todo-is)
          (before_other es n out.0 out.1 to now now_is out.2 old h u c.requires.users old c.args.todo.now.items m (λ fault f. w.in_default.not-Failed fault (sym is ∙ f)) (λ outputs d. w.in_default.not-Done outputs (sym is ∙ d)) (λ k f. f))))
    ] in
    let table_is : c.match-index.table ≡ c.set_progress.new.self = elim c.match-index.branch [ in-Failed w ↦ w.table-is | in-Done w ↦ w.table-is | in_default w ↦ w.table-is ] in
    let s = c.spread.ensures in
    let size : length c.spread.new.marks ≡ length now = c.spread.auto.marks ∙ c.match-index.auto.marks ∙ h.count ∙ sym (ap length now_is ∙ length-set es n (record out.0 { progress = to })) in
    let all = whole_marks now u users_now c.match-index.marks before.sound c.spread.new.marks count_now before.noted before.lacking s.keeps s.only s.all_marked size in
    record {
      numbered = subst IsTable (sym table_is) (c.set_progress.ensures.table c.requires.kept.numbered);
      marked = subst (λ (t : Table). AreMarks t.entries.items c.spread.new.marks) (sym table_is) all;
    }
