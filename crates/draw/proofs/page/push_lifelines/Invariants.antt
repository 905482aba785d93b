use Rattle.std.proofs.Common.{◌≡◌, ◌++◌, drop}
use Rattle.std.specs.String.{string_bytes}
use Rattle.draw.specs.Pages.{lifelines_text}
use Rattle.draw.proofs.page.push_lifelines.Given as goal

abbrev pub invariant-loop-line : goal.invariant-loop-line
invariant-loop-line l = record {
  place : l.column ≡ l.line-index;
  text : string_bytes l.text ++ lifelines_text l.rows l.column (drop l.line-index l.lines) ≡ string_bytes l.fn.text ++ lifelines_text l.rows 0 l.lines;
}
