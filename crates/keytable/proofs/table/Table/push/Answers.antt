use Rattle.std.proofs.Common.{◌∙◌, ◌++◌, ◌∷◌, [], List, ap, sym, append-nil, map}
use Rattle.names.specs.declared.digest.Key.{Key}
use Rattle.keytable.specs.declared.entry.Entry.{Entry}
use Rattle.keytable.specs.declared.entry.Progress.TheVariants.{Waiting}
use Rattle.keytable.specs.Tables.{key_of}
use Rattle.keytable.proofs.AddLemmas.{key_last, keys_push}
use Rattle.keytable.proofs.table.Table.push.Goals as goal

pub returns-in_err-add_number-clause-front : goal.returns-in_err-add_number-clause-front
returns-in_err-add_number-clause-front c =
    let t = c.args.self.now in
    let e = c.in_err-add_number.ensures in
    record {
      keys = ([], e.err ∙ sym (append-nil t.numbers.keys));
      entries = ([], e.entries ∙ sym (append-nil t.entries.items));
    }

pub returns-clause-front : goal.returns-clause-front
returns-clause-front c =
    let t = c.args.self.now in
    let e : Entry = record { key = c.args.key; inputs = c.args.inputs; progress = Waiting } in
    let added = c.in_ok-add_number.ensures in
    record {
      keys = (c.args.key ∷ [], added.keys ∙ key_last t c.requires.table c.args.key c.requires.new);
      entries = (e ∷ [], c.push_reserved.ensures.items ∙ ap (λ (es : List Entry). es ++ e ∷ []) added.entries);
    }

pub returns-clause-table : goal.returns-clause-table
returns-clause-table c =
    let t = c.args.self.now in
    let e : Entry = record { key = c.args.key; inputs = c.args.inputs; progress = Waiting } in
    let added = c.in_ok-add_number.ensures in
    record {
      listed = added.keys ∙ key_last t c.requires.table c.args.key c.requires.new ∙ ap (λ (ks : List Key). ks ++ c.args.key ∷ []) c.requires.table.listed
          ∙ sym (keys_push t.entries.items e) ∙ ap (map key_of) (sym (c.push_reserved.ensures.items ∙ ap (λ (es : List Entry). es ++ e ∷ []) added.entries));
      unique = added.unique;
    }
