use Rattle.std.proofs.Common.{Bor, ◌≡◌, ℕ, ◌-◌, ◌≤◌, List, [], ◌∷◌, length, take, drop, get_or, arith}
use Rattle.std.proofs.Math.Seq.{take-length}
use Rattle.words.specs.Words.{texts}
use Rattle.schedule.proofs.line_fault.words_fault.Goals as goal

-- the first word, and those behind it
texts_split : (ws : List (Bor (List ℕ))) (first : List ℕ) (d : Bor (List ℕ)) → 1 ≤ length ws → (get_or ws 0 d).now ≡ first
    → texts ws ≡ first ∷ texts (take (length ws - 1) (drop 1 ws))
texts_split [] first d some e = absurd (omega arith)
texts_split (w ∷ ws) first d some e =
    let len : length (w ∷ ws) - 1 ≡ length ws = omega arith in
    rw (len, take-length ws) (cc e)

pub form_fault-requires : goal.form_fault-requires
form_fault-requires c = λ e h. c.requires e (record {
  verb = c.in-Some.verb;
  behind = _;
  text = texts_split c.args.words.now _ _ c.in-len1-up.len_at_least c.in-Some.ensures.found;
  says = h;
})
