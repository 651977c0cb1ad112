-- The opening boots each node once.
use Rattle.std.proofs.Common.{◌≡◌, ℕ, Bool, true, false, ◌&&◌, List, [], ◌∷◌, ◌++◌, refl, sym, ap, subst, ◌∙◌, inl, inr, eqb, append_assoc}
use Rattle.std.specs.Prelude.{IsTrue, if◌then◌else◌}
use Rattle.std.proofs.lemmas.Bool.{and_parts, eqb-true, false≢true}
use Rattle.aft_model.specs.declared.door.DoorAct.TheVariants.{Up}
use Rattle.aft_model.specs.declared.node.NodeAct.{NodeAct}
use Rattle.aft_model.specs.declared.node.NodeAct.TheVariants.{Booting}
use Rattle.aft_model.specs.declared.node.NodeEntry.{NodeEntry}
use Rattle.aft_model.specs.DoorKnowledge.{opens}
use Rattle.aft_model.specs.Membership.{Incarnation, incarnation, same_incarnation}
use Rattle.aft_model.specs.Sound.{records_prefix}
use Rattle.aft_model.proofs.Histories.{In, in_back}
use Rattle.aft_lines.specs.OpeningCourse.{boot_course, boot_end_course, boot_scan_course, boot_up_course, boots_course, is_boot, opening_course}
use Rattle.aft_lines.specs.ScanCourse.{names_limit, scanned}
use Rattle.aft_lines.specs.Turns.{AtDoor, AtNode, Turn}
use Rattle.law_copies.proofs.Runs.{went}

-- a boot of a node among some turns, and the rest of the opening behind it
record Booted (node : ℕ) (go_on : List Turn → Bool) (line : List Turn) : Type 0 where
  pub skipped : List Turn
  pub before : List NodeEntry
  pub entry : NodeEntry
  pub inc : ℕ
  pub rest : List Turn
  pub splits : line ≡ skipped ++ AtNode node before entry ∷ rest
  pub serves : IsTrue (is_boot inc entry.act)
  pub goes : IsTrue (go_on rest)

module _ (go_on : List Turn → Bool) where
  further : (node : ℕ) (skipped line : List Turn) → Booted node go_on line → Booted node go_on (skipped ++ line)
  further node skipped line found = record {
    skipped = skipped ++ found.skipped;
    before = found.before;
    entry = found.entry;
    inc = found.inc;
    rest = found.rest;
    splits = ap (λ (l : List Turn). skipped ++ l) found.splits ∙ sym (append_assoc skipped found.skipped (AtNode node found.before found.entry ∷ found.rest));
    serves = found.serves;
    goes = found.goes;
  }

  ended : (who : Incarnation) (line : List Turn) → IsTrue (boot_end_course who go_on line) → Booted who.node go_on line
  ended who (AtNode node before entry ∷ line) is =
      let parts = and_parts (eqb node who.node && is_boot who.inc entry.act) (go_on line) is in
      let its = and_parts (eqb node who.node) (is_boot who.inc entry.act) parts.0 in
      record { skipped = []; before = before; entry = entry; inc = who.inc; rest = line; splits = ap (λ (n : ℕ). AtNode n before entry ∷ line) (eqb-true node who.node its.0); serves = its.1; goes = parts.1 }
  ended who line is = absurd (false≢true is)

  up : (who : Incarnation) (line : List Turn) → IsTrue (boot_up_course who go_on line) → Booted who.node go_on line
  up who (AtDoor place (Up node inc) ∷ line) is =
      let scan = (and_parts (same_incarnation who (incarnation node inc)) (boot_scan_course who go_on (scanned names_limit who records_prefix line)) is).1 in
      let run = went names_limit who records_prefix [] [] line in
      let end = ended who (scanned names_limit who records_prefix line).behind (and_parts (scanned names_limit who records_prefix line).is_whole (boot_end_course who go_on (scanned names_limit who records_prefix line).behind) scan).1 in
      further who.node (AtDoor place (Up node inc) ∷ []) line (subst (Booted who.node go_on) (sym run.splits) (further who.node run.made (scanned names_limit who records_prefix line).behind end))
  up who line is = absurd (false≢true is)

  begun : (node : ℕ) (act : NodeAct) (line : List Turn) → IsTrue (boot_course node go_on act line) → Booted node go_on line
  begun node (Booting inc) line is = up (incarnation node inc) line is
  begun node act line is = absurd (false≢true is)

-- a boot of a node among some turns
pub record BootIn (node : ℕ) (line : List Turn) : Type 0 where
  pub before : List NodeEntry
  pub entry : NodeEntry
  pub inc : ℕ
  pub among : In (AtNode node before entry) line
  pub serves : IsTrue (is_boot inc entry.act)

boots_each : (node : ℕ) (nodes : List ℕ) (line : List Turn) → IsTrue (boots_course nodes line) → In node nodes → BootIn node line
boots_each node [] line is none = absurd none
boots_each node (first ∷ nodes) (AtNode at before entry ∷ line) is among =
    let found = begun (boots_course nodes) first entry.act line (and_parts (eqb first at) (boot_course first (boots_course nodes) entry.act line) is).1 in
    elim among [
      | inl same ↦
          subst (λ (n : ℕ). BootIn n (AtNode at before entry ∷ line)) (sym same)
          (record { before = found.before; entry = found.entry; inc = found.inc; among = inr (subst (In (AtNode first found.before found.entry)) (sym found.splits) (in_back (AtNode first found.before found.entry) found.skipped (AtNode first found.before found.entry ∷ found.rest) (inl refl))); serves = found.serves })
      | inr later ↦
          (let rest = boots_each node nodes found.rest found.goes later in
          record { before = rest.before; entry = rest.entry; inc = rest.inc; among = inr (subst (In (AtNode node rest.before rest.entry)) (sym found.splits) (in_back (AtNode node rest.before rest.entry) found.skipped (AtNode first found.before found.entry ∷ found.rest) (inr rest.among))); serves = rest.serves })
    ]
boots_each node (first ∷ nodes) line is among = absurd (false≢true is)

pub opening_boots : (node : ℕ) (nodes : List ℕ) (line : List Turn) → IsTrue (opening_course nodes line) → In node nodes → BootIn node line
opening_boots node nodes (AtDoor place act ∷ line) is among = later (by_act (opening_boots node nodes line) (opens act) is)
  where
    later : BootIn node line → BootIn node (AtDoor place act ∷ line)
    later found = record { before = found.before; entry = found.entry; inc = found.inc; among = inr found.among; serves = found.serves }

    by_act : (IsTrue (opening_course nodes line) → In node nodes → BootIn node line) → (t : Bool) → IsTrue (if t then boots_course nodes line else opening_course nodes line) → BootIn node line
    by_act rest true its = boots_each node nodes line its among
    by_act rest false its = rest its among
opening_boots node nodes line is among = absurd (false≢true is)
