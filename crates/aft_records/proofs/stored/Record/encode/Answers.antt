use Rattle.std.proofs.Common.{◌≡◌, ◌∙◌, ◌++◌, [], ap, append_assoc, List, ℕ}
use Rattle.std.specs.Prelude.{map}
use Rattle.std.proofs.lemmas.List.{append-nil}
use Rattle.aft_fields.specs.declared.table.Cell.TheVariants.{U64, U128, Texts}
use Rattle.aft_fields.specs.Spelling.{cell_bytes}
use Rattle.aft_id.specs.TxnId.{uuid_number}
use Rattle.aft_records.specs.Names.{id_digits}
use Rattle.aft_records.specs.Rows.{record_tag}
use Rattle.aft_records.proofs.stored.Record.encode.Goals as goal

regrouped : (tag a b c d e f : List ℕ) → (((((tag ++ a) ++ b) ++ c) ++ d) ++ e) ++ f ≡ tag ++ (a ++ (b ++ (c ++ (d ++ (e ++ (f ++ []))))))
regrouped tag a b c d e f = simp (append_assoc, append-nil)

pub returns : goal.returns
returns c =
    let r = c.args.self.now in
    let a = cell_bytes (U64 c.args.self.now.commit.id.time) in
    let b = cell_bytes (U128 (uuid_number c.args.self.now.commit.id.uuid)) in
    let k = cell_bytes (Texts c.args.self.now.commit.keys) in
    let d = cell_bytes (U64 c.args.self.now.origin.node) in
    let e = cell_bytes (U64 c.args.self.now.origin.inc) in
    let f = cell_bytes (Texts (map id_digits c.args.self.now.origin.reads)) in
    let begun : c.put_commit.new.out ≡ ((record_tag ++ a) ++ b) ++ k = c.in_ok-put_commit.ensures ∙ ap (λ (x : List ℕ). ((x ++ a) ++ b) ++ k) c.in_ok-out.ensures in
    let whole : c.put_origin.new.out ≡ (((((record_tag ++ a) ++ b) ++ k) ++ d) ++ e) ++ f = c.in_ok-put_origin.ensures ∙ ap (λ (x : List ℕ). ((x ++ d) ++ e) ++ f) begun in
    c.finished.ensures ∙ whole ∙ regrouped record_tag a b k d e f
