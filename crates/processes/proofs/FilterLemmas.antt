-- What a filter serves, seen as what its coordinator does.
use Rattle.std.proofs.Common.{◌≡◌, ℕ, List, [], ◌∷◌, Option, Result, sym, ap, ◌∙◌}
use Rattle.services.specs.declared.lost.Lost.{Lost}
use Rattle.services.specs.declared.settled.Settled.{Settled}
use Rattle.services.specs.Served.{Steps, Settling, Answers, Batches, Serves}
use Rattle.services.specs.Served.Batches.{Begins, Goes_on}

-- steps of one kind of state are steps of another, where the states are seen as those and something of them stays
pub answers_seen : {S T L : Type 0} (steps : Steps S) (others : Steps T) (seen : S → T) (key_of : S → L) (key : L)
    → ((old : S) (given : Result (List ℕ) Lost) (answer : List ℕ) (new : S) → key_of old ≡ key → steps old given answer new
    → others (seen old) given answer (seen new) × (key_of new ≡ key))
    → (limit : ℕ) (old new : S) (lines answers : List (List ℕ)) → key_of old ≡ key → Answers steps limit old lines answers new
    → Answers others limit (seen old) lines answers (seen new)
answers_seen steps others seen key_of key each limit old new [] [] same h = ap seen h
answers_seen steps others seen key_of key each limit old new [] (a ∷ answers) same h = absurd h
answers_seen steps others seen key_of key each limit old new (l ∷ lines) [] same h = absurd h
answers_seen steps others seen key_of key each limit old new (l ∷ lines) (a ∷ answers) same h =
    let step = each old h.0 a h.1 same h.3 in
    (h.0, seen h.1, h.2, step.0, answers_seen steps others seen key_of key each limit h.1 new lines answers step.1 h.4)

pub key_stays : {S L : Type 0} (steps : Steps S) (key_of : S → L) (key : L)
    → ((old : S) (given : Result (List ℕ) Lost) (answer : List ℕ) (new : S) → key_of old ≡ key → steps old given answer new → key_of new ≡ key)
    → (limit : ℕ) (old new : S) (lines answers : List (List ℕ)) → key_of old ≡ key → Answers steps limit old lines answers new → key_of new ≡ key
key_stays steps key_of key each limit old new [] [] same h = ap key_of (sym h) ∙ same
key_stays steps key_of key each limit old new [] (a ∷ answers) same h = absurd h
key_stays steps key_of key each limit old new (l ∷ lines) [] same h = absurd h
key_stays steps key_of key each limit old new (l ∷ lines) (a ∷ answers) same h =
    key_stays steps key_of key each limit h.1 new lines answers (each old h.0 a h.1 same h.3) h.4

-- and so are batches of them
batches_seen : {S T L : Type 0} (steps : Steps S) (others : Steps T) (settles : Settling S) (settled : Settling T) (seen : S → T) (key_of : S → L) (key : L)
    → ((old : S) (given : Result (List ℕ) Lost) (answer : List ℕ) (new : S) → key_of old ≡ key → steps old given answer new
    → others (seen old) given answer (seen new) × (key_of new ≡ key))
    → ((old : S) (s : Settled) (new : S) → settles old s new → settled (seen old) s (seen new) × (key_of new ≡ key_of old))
    → (limit : ℕ) (old new : S) (lines : List (List ℕ)) (text : List ℕ) → key_of old ≡ key → Batches steps settles limit old lines text new
    → Batches others settled limit (seen old) lines text (seen new) × (key_of new ≡ key)
batches_seen steps others settles settled seen key_of key each made limit old new lines text same Begins = (Begins, same)
batches_seen steps others settles settled seen key_of key each made limit old new lines text same (Goes_on front more before added mid final h b) =
    let first = batches_seen steps others settles settled seen key_of key each made limit old mid front before same h in
    let last = made b.answered_to b.settled new b.made in
    let keyed = key_stays steps key_of key (λ o g a n s step. (each o g a n s step).1) limit mid b.answered_to more b.answers first.1 b.answered in (
      Goes_on front more before added (seen mid) (seen new) first.0 (record {
        answered_to = seen b.answered_to;
        answers = b.answers;
        settled = b.settled;
        answered = answers_seen steps others seen key_of key each limit mid b.answered_to more b.answers first.1 b.answered;
        made = last.0;
        text_is = b.text_is;
      }),
      last.1 ∙ keyed,
    )

pub serves_seen : {S T L : Type 0} (steps : Steps S) (others : Steps T) (settles : Settling S) (settled : Settling T) (seen : S → T) (key_of : S → L) (key : L)
    → ((old : S) (given : Result (List ℕ) Lost) (answer : List ℕ) (new : S) → key_of old ≡ key → steps old given answer new
    → others (seen old) given answer (seen new) × (key_of new ≡ key))
    → ((old : S) (s : Settled) (new : S) → settles old s new → settled (seen old) s (seen new) × (key_of new ≡ key_of old))
    → (limit : ℕ) (greeting : List ℕ) (lines : List (List ℕ)) (old new : S) (before after : Option (List ℕ)) → key_of old ≡ key
    → Serves steps settles limit greeting lines old new before after → Serves others settled limit greeting lines (seen old) (seen new) before after
serves_seen steps others settles settled seen key_of key each made limit greeting lines old new before after same h = record {
  text = h.text;
  answered = (batches_seen steps others settles settled seen key_of key each made limit old new lines h.text same h.answered).0;
  written = h.written;
}
