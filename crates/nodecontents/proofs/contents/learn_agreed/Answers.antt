use Rattle.std.proofs.Common.{Bool, ◌&&◌, ap, sym, ◌∙◌, arith, length-append}
use Rattle.nodecontents.specs.Stored.{learn_one, known_in}
use Rattle.nodecontents.proofs.MapLemmas.{learn_all-push}
use Rattle.nodecontents.proofs.StoredLemmas.{agrees_more}
use Rattle.nodecontents.proofs.contents.learn_agreed.Goals as goal

pub loop-version-preserved-then-learn_one : goal.loop-version-preserved-then-learn_one
loop-version-preserved-then-learn_one c = record {
  agree = sym (ap (λ (r : Bool). r && c.loop-version.agree) c.if-learn_one.true)
      ∙ agrees_more c.loop-version.yielded (c.in-Some.version, c.in-Some.digest) (known_in c.args.known.now) (known_in c.loop-version.known) c.loop-version.agree c.learn_one.result c.loop-version.invariant.known c.learn_one.ensures.agrees c.loop-version.invariant.agree;
  known = c.learn_one.ensures.known
      ∙ ap (learn_one (c.in-Some.version, c.in-Some.digest)) c.loop-version.invariant.known
      ∙ sym (learn_all-push c.loop-version.yielded (c.in-Some.version, c.in-Some.digest) (known_in c.args.known.now));
  room = simp length-append (omega (arith, c.learn_one.ensures.spare, c.loop-version.invariant.room));
}

pub loop-version-preserved : goal.loop-version-preserved
loop-version-preserved c = record {
  agree = c.if-learn_one.false ∙ sym (ap (λ (r : Bool). r && c.loop-version.agree) c.if-learn_one.false)
      ∙ agrees_more c.loop-version.yielded (c.in-Some.version, c.in-Some.digest) (known_in c.args.known.now) (known_in c.loop-version.known) c.loop-version.agree c.learn_one.result c.loop-version.invariant.known c.learn_one.ensures.agrees c.loop-version.invariant.agree;
  known = c.learn_one.ensures.known
      ∙ ap (learn_one (c.in-Some.version, c.in-Some.digest)) c.loop-version.invariant.known
      ∙ sym (learn_all-push c.loop-version.yielded (c.in-Some.version, c.in-Some.digest) (known_in c.args.known.now));
  room = simp length-append (omega (arith, c.learn_one.ensures.spare, c.loop-version.invariant.room));
}
