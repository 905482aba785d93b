-- What was served so far.
use Rattle.std.proofs.Common.{◌≡◌, ◌≢◌, ℕ, ◌==◌, true, false, List, [], ◌∷◌, ◌++◌, Option, Some, None, Result, refl, inl, inr, sym, ap, ◌∙◌, subst, append_assoc, eq-eqb}
use Rattle.std.specs.Prelude.{IfSome}
use Rattle.std.specs.Io.KnownBytes.{Appends, Keeps, Consumes, IsAtEnd}
use Rattle.std.proofs.lemmas.Bool.{cases_Bool, eqb-true}
use Rattle.std.proofs.lemmas.List.{append-nil}
use Rattle.services.specs.declared.lost.Lost.{Lost}
use Rattle.services.specs.Buffers.{BufferParts, HasRead, IsKept}
use Rattle.services.specs.Lines.{lines_behind, Ends, Grows}
use Rattle.services.specs.Served.{Steps, Settling, Answers, joined, refused_save, refusals, settled_text, Batches, Serves, Takes, Writes}
use Rattle.services.specs.Served.Batches.{Begins, Goes_on}

-- ---- what a writer holds

pub kept_after : (a b c : Option (List ℕ)) (bytes : List ℕ) → Appends a b bytes → Keeps b c → Appends a c bytes
kept_after None b c bytes h k = tt
kept_after (Some xs) None c bytes h k = absurd h
kept_after (Some xs) (Some ys) None bytes h k = absurd k
kept_after (Some xs) (Some ys) (Some zs) bytes h k = k ∙ h

appends_both : (a b c : Option (List ℕ)) (xs ys : List ℕ) → Appends a b xs → Appends b c ys → Appends a c (xs ++ ys)
appends_both None b c xs ys h k = tt
appends_both (Some ws) None c xs ys h k = absurd h
appends_both (Some ws) (Some us) None xs ys h k = absurd k
appends_both (Some ws) (Some us) (Some vs) xs ys h k = k ∙ ap (λ front. front ++ ys) h ∙ append_assoc ws xs ys

pub appends_nothing : (a : Option (List ℕ)) → Appends a a []
appends_nothing None = tt
appends_nothing (Some xs) = sym (append-nil xs)

-- ---- one more answer

pub joined-push : (answers : List (List ℕ)) (answer : List ℕ) → joined (answers ++ answer ∷ []) ≡ joined answers ++ answer
joined-push [] answer = append-nil answer
joined-push (a ∷ answers) answer = ap (λ rest. a ++ rest) (joined-push answers answer) ∙ sym (append_assoc a (joined answers) answer)

-- one more was written
pub more_joined : (a b c : Option (List ℕ)) (answers longer : List (List ℕ)) (answer : List ℕ) → longer ≡ answers ++ answer ∷ [] → Appends a b (joined answers) → Appends b c answer
    → Appends a c (joined longer)
more_joined a b c answers longer answer same h k =
    subst (λ ls. Appends a c (joined ls)) (sym same) (subst (Appends a c) (sym (joined-push answers answer)) (appends_both a b c (joined answers) answer h k))

pub refusals_push : (answers : List (List ℕ)) (answer : List ℕ) → refusals (answers ++ answer ∷ []) ≡ refusals answers ++ refused_save ∷ []
refusals_push [] answer = refl
refusals_push (a ∷ answers) answer = ap (λ rest. refused_save ∷ rest) (refusals_push answers answer)

pub more_refusals : (a b c : Option (List ℕ)) (answers longer : List (List ℕ)) (answer : List ℕ) → longer ≡ answers ++ answer ∷ [] → Appends a b (joined (refusals answers))
    → Appends b c refused_save → Appends a c (joined (refusals longer))
more_refusals a b c answers longer answer same h k = more_joined a b c (refusals answers) (refusals longer) refused_save (ap refusals same ∙ refusals_push answers answer) h k

answers-push : {S : Type 0} (steps : Steps S) (limit : ℕ) (old mid new : S) (lines answers : List (List ℕ)) (line answer : List ℕ) (given : Result (List ℕ) Lost)
    → Answers steps limit old lines answers mid → IsKept limit line given → steps mid given answer new
    → Answers steps limit old (lines ++ line ∷ []) (answers ++ answer ∷ []) new
answers-push steps limit old mid new [] [] line answer given h kept step = (given, new, kept, subst (λ s. steps s given answer new) (sym h) step, refl)
answers-push steps limit old mid new [] (a ∷ answers) line answer given h kept step = absurd h
answers-push steps limit old mid new (l ∷ lines) [] line answer given h kept step = absurd h
answers-push steps limit old mid new (l ∷ lines) (a ∷ answers) line answer given h kept step =
    (h.0, h.1, h.2, h.3, answers-push steps limit h.1 mid new lines answers line answer given h.4 kept step)

-- where there is no answer there was no line
none_answered : {S : Type 0} (steps : Steps S) (limit : ℕ) (old new : S) (lines answers : List (List ℕ)) → answers ≡ [] → Answers steps limit old lines answers new
    → (lines ≡ []) × (old ≡ new)
none_answered steps limit old new [] [] none h = (refl, h)
none_answered steps limit old new (l ∷ lines) [] none h = absurd h
none_answered steps limit old new lines (a ∷ answers) none h = absurd (cc none)

-- ---- the lines that some bytes end

-- a line that goes on
on_byte : (front rest behind : List ℕ) (byte : ℕ) → rest ≡ byte ∷ behind → (byte == 10) ≡ false → lines_behind front rest ≡ lines_behind (front ++ byte ∷ []) behind
on_byte front rest behind byte e other = rw (e, other) refl

-- a line that ends
on_end : (front rest behind : List ℕ) (byte : ℕ) → rest ≡ byte ∷ behind → (byte == 10) ≡ true → lines_behind front rest ≡ front ∷ lines_behind [] behind
on_end front rest behind byte e here = rw (e, here) refl

-- of these bytes some lines were answered and written, and some were answered only
pub record Gathering {S : Type 0} (steps : Steps S) (settles : Settling S) (limit : ℕ) (bytes : List ℕ) (old now : S) (buffer : BufferParts)
    (before after : Option (List ℕ)) (answers : List (List ℕ)) (front : List ℕ) : Type 0 where
  pub lines : List (List ℕ)
  pub waiting : List (List ℕ)
  pub text : List ℕ
  pub rest : List ℕ
  pub settled_to : S
  pub split : (more : List ℕ) → lines_behind front (bytes ++ more) ≡ (lines ++ waiting) ++ lines_behind rest more
  pub read : HasRead buffer rest
  pub answered : Batches steps settles limit old lines text settled_to
  pub gathered : Answers steps limit settled_to waiting answers now
  pub written : Appends before after text

pub at_first : {S : Type 0} (steps : Steps S) (settles : Settling S) (limit : ℕ) (old : S) (buffer : BufferParts) (before : Option (List ℕ)) (answers : List (List ℕ)) → answers ≡ []
    → (front : List ℕ) → HasRead buffer front → Gathering steps settles limit [] old old buffer before before answers front
at_first steps settles limit old buffer before answers none front read = record {
  lines = [];
  waiting = [];
  text = [];
  rest = front;
  settled_to = old;
  split = λ more. refl;
  read = read;
  answered = Begins;
  gathered = subst (λ (zs : List (List ℕ)). Answers steps limit old [] zs old) (sym none) refl;
  written = appends_nothing before;
}

-- a byte that ends no line
pub goes_on : {S : Type 0} (steps : Steps S) (settles : Settling S) (limit : ℕ) (bytes longer : List ℕ) (old now : S) (buffer later : BufferParts) (before after : Option (List ℕ))
    (answers : List (List ℕ)) (front : List ℕ) (byte : ℕ) (line : Option (Result (List ℕ) Lost)) → longer ≡ bytes ++ byte ∷ [] → line ≡ None
    → (byte ≡ 10 → (rest : List ℕ) → HasRead buffer rest → Ends buffer.limit rest line later)
    → (byte ≢ 10 → (rest : List ℕ) → HasRead buffer rest → Grows rest byte line later)
    → Gathering steps settles limit bytes old now buffer before after answers front → Gathering steps settles limit longer old now later before after answers front
goes_on {S} steps settles limit bytes longer old now buffer later before after answers front byte line same none ends grows h =
    elim (cases_Bool (byte == 10)) [
      | inl here ↦ let end = ends (eqb-true byte 10 here) h.rest h.read in absurd (cc (end.line_is, none))
      | inr other ↦ on other (grows (λ e. (let yes = eq-eqb byte 10 e in cc (yes, other))) h.rest h.read)
    ]
  where
    on : (byte == 10) ≡ false → Grows h.rest byte line later → Gathering steps settles limit longer old now later before after answers front
    on other grown = record {
      lines = h.lines;
      waiting = h.waiting;
      text = h.text;
      rest = h.rest ++ byte ∷ [];
      settled_to = h.settled_to;
      split = λ more. ap (λ bs. lines_behind front (bs ++ more)) same ∙ ap (lines_behind front) (append_assoc bytes (byte ∷ []) more) ∙ h.split (byte ∷ more)
          ∙ ap (λ ls. (h.lines ++ h.waiting) ++ ls) (on_byte h.rest (byte ∷ more) more byte refl other);
      read = grown.longer;
      answered = h.answered;
      gathered = h.gathered;
      written = h.written;
    }

-- a byte that ends a line, which is answered
pub one_more : {S : Type 0} (steps : Steps S) (settles : Settling S) (limit : ℕ) (bytes longer : List ℕ) (old mid now : S) (buffer later : BufferParts) (before after : Option (List ℕ))
    (answers more_answers : List (List ℕ)) (answer : List ℕ) (front : List ℕ) (byte : ℕ) (line : Option (Result (List ℕ) Lost)) (given : Result (List ℕ) Lost)
    → longer ≡ bytes ++ byte ∷ [] → line ≡ Some given → buffer.limit ≡ limit
    → (byte ≡ 10 → (rest : List ℕ) → HasRead buffer rest → Ends buffer.limit rest line later)
    → (byte ≢ 10 → (rest : List ℕ) → HasRead buffer rest → Grows rest byte line later)
    → steps mid given answer now → more_answers ≡ answers ++ answer ∷ []
    → Gathering steps settles limit bytes old mid buffer before after answers front → Gathering steps settles limit longer old now later before after more_answers front
one_more {S} steps settles limit bytes longer old mid now buffer later before after answers more_answers answer front byte line given same some limited ends grows step pushed h =
    elim (cases_Bool (byte == 10)) [
      | inl here ↦ end here (subst (λ n. Ends n h.rest (Some given) later) limited (subst (λ l. Ends buffer.limit h.rest l later) some (ends (eqb-true byte 10 here) h.rest h.read)))
      | inr other ↦ let on = grows (λ e. (let yes = eq-eqb byte 10 e in cc (yes, other))) h.rest h.read in absurd (cc (on.line_is, some))
    ]
  where
    end : (byte == 10) ≡ true → Ends limit h.rest (Some given) later → Gathering steps settles limit longer old now later before after more_answers front
    end here ended =
        let is : ended.ended ≡ given = cc ended.line_is in
        let kept : IsKept limit h.rest given = subst (IsKept limit h.rest) is ended.is in
        record {
          lines = h.lines;
          waiting = h.waiting ++ h.rest ∷ [];
          text = h.text;
          rest = [];
          settled_to = h.settled_to;
          split = λ more. ap (λ bs. lines_behind front (bs ++ more)) same ∙ ap (lines_behind front) (append_assoc bytes (byte ∷ []) more) ∙ h.split (byte ∷ more)
              ∙ ap (λ ls. (h.lines ++ h.waiting) ++ ls) (on_end h.rest (byte ∷ more) more byte refl here)
              ∙ sym (append_assoc (h.lines ++ h.waiting) (h.rest ∷ []) (lines_behind [] more))
              ∙ ap (λ ls. ls ++ lines_behind [] more) (append_assoc h.lines h.waiting (h.rest ∷ []));
          read = ended.empty;
          answered = h.answered;
          gathered = subst (λ zs. Answers steps limit h.settled_to (h.waiting ++ h.rest ∷ []) zs now) (sym pushed)
              (answers-push steps limit h.settled_to mid now h.waiting answers h.rest answer given h.gathered kept step);
          written = h.written;
        }

-- what was answered is settled and written
pub all_written : {S : Type 0} (steps : Steps S) (settles : Settling S) (limit : ℕ) (bytes : List ℕ) (old mid now : S) (buffer : BufferParts) (a b c : Option (List ℕ))
    (answers none : List (List ℕ)) (front : List ℕ) → none ≡ [] → Writes settles answers mid now b c
    → Gathering steps settles limit bytes old mid buffer a b answers front → Gathering steps settles limit bytes old now buffer a c none front
all_written steps settles limit bytes old mid now buffer a b c answers none front empty wrote h = record {
  lines = h.lines ++ h.waiting;
  waiting = [];
  text = h.text ++ settled_text wrote.settled answers;
  rest = h.rest;
  settled_to = now;
  split = λ more. h.split more ∙ ap (λ ls. ls ++ lines_behind h.rest more) (sym (append-nil (h.lines ++ h.waiting)));
  read = h.read;
  answered = Goes_on h.lines h.waiting h.text (settled_text wrote.settled answers) h.settled_to now h.answered (record {
    answered_to = mid;
    answers = answers;
    settled = wrote.settled;
    answered = h.gathered;
    made = wrote.made;
    text_is = refl;
  });
  gathered = subst (λ (zs : List (List ℕ)). Answers steps limit now [] zs now) (sym empty) refl;
  written = appends_both a b c h.text (settled_text wrote.settled answers) h.written wrote.written;
}

-- nothing waits to be written
pub at_last : {S : Type 0} (steps : Steps S) (settles : Settling S) (limit : ℕ) (bytes : List ℕ) (old now : S) (buffer : BufferParts) (before after : Option (List ℕ))
    (none : List (List ℕ)) (front : List ℕ) → none ≡ [] → Gathering steps settles limit bytes old now buffer before after none front
    → Takes steps settles limit bytes old now buffer before after front
at_last steps settles limit bytes old now buffer before after none front empty h =
    let nothing = none_answered steps limit h.settled_to now h.waiting none empty h.gathered in
    record {
      lines = h.lines;
      text = h.text;
      rest = h.rest;
      split = λ more. h.split more ∙ ap (λ ls. (h.lines ++ ls) ++ lines_behind h.rest more) nothing.0 ∙ ap (λ ls. ls ++ lines_behind h.rest more) (append-nil h.lines);
      read = h.read;
      answered = subst (Batches steps settles limit old h.lines h.text) nothing.1 h.answered;
      written = h.written;
    }

-- ---- what was read

batches_both : {S : Type 0} (steps : Steps S) (settles : Settling S) (limit : ℕ) (old mid new : S) (lines more : List (List ℕ)) (text added : List ℕ)
    → Batches steps settles limit old lines text mid → Batches steps settles limit mid more added new → Batches steps settles limit old (lines ++ more) (text ++ added) new
batches_both steps settles limit old mid new lines more text added h Begins =
    subst (λ ls. Batches steps settles limit old ls (text ++ []) mid) (sym (append-nil lines)) (subst (λ t. Batches steps settles limit old lines t mid) (sym (append-nil text)) h)
batches_both steps settles limit old mid new lines more text added h (Goes_on front last before end between final k b) =
    subst (λ ls. Batches steps settles limit old ls (text ++ (before ++ end)) new) (append_assoc lines front last)
    (subst (λ t. Batches steps settles limit old ((lines ++ front) ++ last) t new) (append_assoc text before end)
    (Goes_on (lines ++ front) last (text ++ before) end between new (batches_both steps settles limit old mid between lines front text before h k) b))

-- of a text that was known some lines were answered, and what stands behind them is still to be read, but for the front of a line
pub record SoFar {S : Type 0} (steps : Steps S) (settles : Settling S) (limit : ℕ) (greeting text : List ℕ) (old new : S) (before after : Option (List ℕ)) (buffer : BufferParts)
    (left : Option (List ℕ)) : Type 0 where
  pub front : List ℕ
  pub rest : List ℕ
  pub lines : List (List ℕ)
  pub left_is : left ≡ Some rest
  pub read : HasRead buffer front
  pub split : lines_behind [] text ≡ lines ++ lines_behind front rest
  pub serves : Serves steps settles limit greeting lines old new before after

-- at the start nothing was read
pub at_start : {S : Type 0} (steps : Steps S) (settles : Settling S) (limit : ℕ) (greeting : List ℕ) (old : S) (before after : Option (List ℕ)) (buffer : BufferParts)
    (known : Option (List ℕ)) → HasRead buffer [] → Appends before after greeting
    → IfSome known (λ text. SoFar steps settles limit greeting text old old before after buffer known)
at_start steps settles limit greeting old before after buffer None read written = tt
at_start steps settles limit greeting old before after buffer (Some text) read written = record {
  front = [];
  rest = text;
  lines = [];
  left_is = refl;
  read = read;
  split = refl;
  serves = record { text = []; answered = Begins; written = subst (Appends before after) (sym (append-nil greeting)) written };
}

-- the bytes that are left but for the first
taken : (left new : Option (List ℕ)) (rest bytes : List ℕ) → left ≡ Some rest → Consumes left new bytes → (behind : List ℕ) × (new ≡ Some behind) × (rest ≡ bytes ++ behind)
taken None new rest bytes is h = absurd (cc is)
taken (Some xs) None rest bytes is h = absurd h
taken (Some xs) (Some ys) rest bytes is h = let same : xs ≡ rest = cc is in (ys, refl, sym same ∙ h)

-- some bytes were read, and the lines that they end answered
pub more_read : {S : Type 0} (steps : Steps S) (settles : Settling S) (limit : ℕ) (greeting bytes : List ℕ) (old mid new : S) (a b c : Option (List ℕ)) (buffer later : BufferParts)
    (known left behind : Option (List ℕ)) → Consumes left behind bytes → ((front : List ℕ) → HasRead buffer front → Takes steps settles limit bytes mid new later b c front)
    → IfSome known (λ text. SoFar steps settles limit greeting text old mid a b buffer left)
    → IfSome known (λ text. SoFar steps settles limit greeting text old new a c later behind)
more_read steps settles limit greeting bytes old mid new a b c buffer later None left behind gone takes h = tt
more_read steps settles limit greeting bytes old mid new a b c buffer later (Some text) left behind gone takes h =
    let took = taken left behind h.rest bytes h.left_is gone in
    let t = takes h.front h.read in
    record {
      front = t.rest;
      rest = took.0;
      lines = h.lines ++ t.lines;
      left_is = took.1;
      read = t.read;
      split = h.split ∙ ap (λ rest. h.lines ++ lines_behind h.front rest) took.2 ∙ ap (λ ls. h.lines ++ ls) (t.split took.0)
          ∙ sym (append_assoc h.lines t.lines (lines_behind t.rest took.0));
      serves = record {
        text = h.serves.text ++ t.text;
        answered = batches_both steps settles limit old mid new h.lines t.lines h.serves.text t.text h.serves.answered t.answered;
        written = subst (Appends a c) (append_assoc greeting h.serves.text t.text) (appends_both a b c (greeting ++ h.serves.text) t.text h.serves.written t.written);
      };
    }

-- nothing was read
pub none_read : {S : Type 0} (steps : Steps S) (settles : Settling S) (limit : ℕ) (greeting : List ℕ) (old new : S) (before after : Option (List ℕ)) (buffer : BufferParts)
    (known left behind : Option (List ℕ)) → Keeps left behind → IfSome known (λ text. SoFar steps settles limit greeting text old new before after buffer left)
    → IfSome known (λ text. SoFar steps settles limit greeting text old new before after buffer behind)
none_read steps settles limit greeting old new before after buffer None left behind keeps h = tt
none_read steps settles limit greeting old new before after buffer (Some text) left behind keeps h = record {
  front = h.front;
  rest = h.rest;
  lines = h.lines;
  left_is = still left behind h.rest h.left_is keeps;
  read = h.read;
  split = h.split;
  serves = h.serves;
}
  where
    still : (left behind : Option (List ℕ)) (rest : List ℕ) → left ≡ Some rest → Keeps left behind → behind ≡ Some rest
    still None behind rest is keeps = absurd (cc is)
    still (Some xs) None rest is keeps = absurd keeps
    still (Some xs) (Some ys) rest is keeps = ap (λ zs. Some zs) keeps ∙ is

-- at the end all whole lines were answered
pub at_end : {S : Type 0} (steps : Steps S) (settles : Settling S) (limit : ℕ) (greeting bytes : List ℕ) (old new : S) (before after : Option (List ℕ)) (buffer : BufferParts)
    (known left behind : Option (List ℕ)) → bytes ≡ [] → Consumes left behind bytes → IsAtEnd behind
    → IfSome known (λ text. SoFar steps settles limit greeting text old new before after buffer left)
    → IfSome known (λ text. Serves steps settles limit greeting (lines_behind [] text) old new before after)
at_end steps settles limit greeting bytes old new before after buffer None left behind empty gone end h = tt
at_end steps settles limit greeting bytes old new before after buffer (Some text) left behind empty gone end h =
    let took = taken left behind h.rest bytes h.left_is gone in
    let none : h.rest ≡ [] = took.2 ∙ ap (λ bs. bs ++ took.0) empty ∙ rest_none behind took.0 took.1 end in
    let whole : lines_behind [] text ≡ h.lines = h.split ∙ ap (λ rest. h.lines ++ lines_behind h.front rest) none ∙ append-nil h.lines in
    subst (λ lines. Serves steps settles limit greeting lines old new before after) (sym whole) h.serves
  where
    rest_none : (left : Option (List ℕ)) (rest : List ℕ) → left ≡ Some rest → IsAtEnd left → rest ≡ []
    rest_none None rest is end = absurd (cc is)
    rest_none (Some xs) rest is end = let same : xs ≡ rest = cc is in sym same ∙ end
