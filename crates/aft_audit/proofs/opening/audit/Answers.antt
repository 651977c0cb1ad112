use Rattle.std.proofs.Common.{[], List, ◌≡◌, subst, sym, ap, ◌∙◌}
use Rattle.std.specs.Prelude.{IsTrue, None}
use Rattle.std.specs.List.{flat_map, list_any}
use Rattle.std.specs.Str.{bytes_eq}
use Rattle.aft_keeper.specs.declared.keeper.Pair.{Pair}
use Rattle.aft_records.specs.declared.stored.Commit.{Commit}
use Rattle.aft_model.specs.declared.door.DoorEntry.{DoorEntry}
use Rattle.aft_model.specs.DoorKnowledge.{is_untouched}
use Rattle.aft_model.specs.ScanRun.{ScanPage, commits_on}
use Rattle.aft_model.specs.Sound.{recorded, records_prefix}
use Rattle.aft_audit.specs.Scans.{IsScanning}
use Rattle.aft_audit.specs.Versions.{names_of}
use Rattle.aft_audit.proofs.Alone.{opened_untouched}
use Rattle.aft_audit.proofs.Gets.{has_all}
use Rattle.aft_audit.proofs.Opens.{all_recorded, begins_gets, records_stay, stays_few}
use Rattle.aft_audit.proofs.opening.audit.Goals as goal

-- the scan of the records, behind nothing
from_new : (pairs p1 : List Pair) (h0 h1 : List DoorEntry) → pairs ≡ [] → h0 ≡ [] → IsScanning records_prefix None pairs p1 h0 h1 → IsScanning records_prefix None [] p1 [] h1
from_new pairs p1 h0 h1 none new runs = subst (λ (h : List DoorEntry). IsScanning records_prefix None [] p1 h h1) new (subst (λ (ps : List Pair). IsScanning records_prefix None ps p1 h0 h1) none runs)

pub get_each-requires : goal.get_each-requires
get_each-requires g c =
    begins_gets c.scan.new.pairs.items c.scan-2.new.pairs.items c.scan.new.door.history c.scan-2.new.door.history
    (from_new c.new-pairs.result.items c.scan.new.pairs.items c.args.door.now.history c.scan.new.door.history c.new-pairs.ensures.items c.requires c.in_ok-scan.ensures.ok) c.in_ok-scan-2.ensures.ok c.law_legal.ensures.legal
    c.in_ok-names.names.entries c.in_ok-names.ensures.named
    (λ name. c.in_ok-names.ensures.all name ∙ ap (λ (cs : List Commit). list_any (bytes_eq name) (flat_map names_of cs)) (c.deref-2.ensures.value ∙ (c.in_ok-commits.ensures ∙ ap (λ (ps : List Pair). recorded ps) c.deref.ensures.value)))

pub open-requires-clause-read : goal.open-requires-clause-read
open-requires-clause-read g c = has_all c.in_ok-names.names.entries c.get_each.new.pairs.items c.scan-2.new.door.history c.get_each.new.door.history c.in_ok-get_each.ensures.ok

pub open-requires-clause-few : goal.open-requires-clause-few
open-requires-clause-few g c =
    stays_few c.scan.new.door.history c.scan-2.new.door.history c.get_each.new.door.history
    (records_stay c.scan.new.pairs.items c.scan-2.new.pairs.items c.scan.new.door.history c.scan-2.new.door.history (from_new c.new-pairs.result.items c.scan.new.pairs.items c.args.door.now.history c.scan.new.door.history c.new-pairs.ensures.items c.requires c.in_ok-scan.ensures.ok) c.in_ok-scan-2.ensures.ok c.law_legal.ensures.legal)
    c.in_ok-get_each.ensures.ok.records c.in_ok-get_each.ensures.ok.markers c.in_ok-scan.ensures.few c.in_ok-scan-2.ensures.few

pub returns-clause-answer : goal.returns-clause-answer
returns-clause-answer g c =
    let first = from_new c.new-pairs.result.items c.scan.new.pairs.items c.args.door.now.history c.scan.new.door.history c.new-pairs.ensures.items c.requires c.in_ok-scan.ensures.ok in
    record {
      before = c.get_each.new.door.history;
      ends = c.in_ok-open.ensures.ok;
      reading = c.in_ok-get_each.ensures.ok.shows.reading;
      few = stays_few c.scan.new.door.history c.scan-2.new.door.history c.get_each.new.door.history
          (records_stay c.scan.new.pairs.items c.scan-2.new.pairs.items c.scan.new.door.history c.scan-2.new.door.history first c.in_ok-scan-2.ensures.ok c.law_legal.ensures.legal)
          c.in_ok-get_each.ensures.ok.records c.in_ok-get_each.ensures.ok.markers c.in_ok-scan.ensures.few c.in_ok-scan-2.ensures.few;
      tells = c.from_vec.ensures ∙ (c.in_ok-commits.ensures ∙ (ap (λ (ps : List Pair). recorded ps) c.deref.ensures.value
          ∙ (all_recorded c.scan.new.pairs.items c.scan-2.new.pairs.items c.scan.new.door.history c.scan-2.new.door.history first c.in_ok-scan-2.ensures.ok c.law_legal.ensures.legal
          ∙ ap (λ (pages : List ScanPage). commits_on pages) (sym c.in_ok-get_each.ensures.ok.records))));
    }

pub returns-clause-untouched : goal.returns-clause-untouched
returns-clause-untouched g c = subst (λ (h : List DoorEntry). IsTrue (is_untouched h)) (sym c.in_ok-open.ensures.ok) (opened_untouched c.get_each.new.door.history c.law_legal-2.ensures.legal c.in_ok-get_each.ensures.ok.shows.reading.closed)
