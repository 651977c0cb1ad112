-- A copy that found all its versions has got each of them.
use Rattle.std.proofs.Common.{◌≡◌, ℕ, Bool, true, false, ◌&&◌, List, [], ◌∷◌, refl, sym, ap, subst, inl, inr}
use Rattle.std.specs.Prelude.{IsTrue, if◌then◌else◌}
use Rattle.std.specs.Str.{bytes_eq}
use Rattle.std.proofs.lemmas.Bool.{and_parts, false≢true}
use Rattle.aft_keeper.specs.declared.keeper.KeeperAnswer.{KeeperAnswer}
use Rattle.aft_keeper.specs.declared.keeper.KeeperAnswer.TheVariants.{Found}
use Rattle.aft_keeper.specs.declared.keeper.KeeperCall.TheVariants.{Get}
use Rattle.aft_model.specs.declared.door.DoorAct.TheVariants.{Call}
use Rattle.aft_model.specs.Membership.{Incarnation, incarnation, same_incarnation}
use Rattle.aft_model.specs.Readings.{version_name}
use Rattle.aft_model.proofs.Histories.{In}
use Rattle.aft_model.proofs.Sights.{same_bytes}
use Rattle.aft_lines.specs.BackupCourse.{copies, finds_copy}
use Rattle.aft_lines.specs.OrphanCourse.{VersionAt}
use Rattle.aft_lines.specs.Turns.{AtDoor, Turn}

-- a get among some turns that found a version's text
pub record FoundIn (line : List Turn) (one : VersionAt) : Type 0 where
  pub place : ℕ
  pub node : ℕ
  pub inc : ℕ
  pub bytes : List ℕ
  pub among : In (AtDoor place (Call node inc (Get (version_name one.key one.id)) (Found bytes))) line

found_later : (first : Turn) (line : List Turn) (one : VersionAt) → FoundIn line one → FoundIn (first ∷ line) one
found_later first line one found = record { place = found.place; node = found.node; inc = found.inc; bytes = found.bytes; among = inr found.among }

found_here : (place node inc : ℕ) (name : List ℕ) (answer : KeeperAnswer) (line : List Turn) (one : VersionAt) → version_name one.key one.id ≡ name → IsTrue (finds_copy one answer) → FoundIn (AtDoor place (Call node inc (Get name) answer) ∷ line) one
found_here place node inc name (Found bytes) line one named finds =
    record { place = place; node = node; inc = inc; bytes = bytes; among = inl (ap (λ n. AtDoor place (Call node inc (Get n) (Found bytes))) named) }
found_here place node inc name answer line one named finds = absurd (false≢true finds)

module _ (who : Incarnation) where
  by_get : (one : VersionAt) (more : List VersionAt) (place node inc : ℕ) (name : List ℕ) (answer : KeeperAnswer) (line : List Turn) → (IsTrue (copies who more line).is_whole → (other : VersionAt) → In other more → FoundIn line other)
      → (own : Bool) → (same_incarnation who (incarnation node inc) && bytes_eq (version_name one.key one.id) name) ≡ own → (finds : Bool) → finds_copy one answer ≡ finds
      → IsTrue (if own then (if finds then copies who more line else record { is_whole = false; behind = line }) else record { is_whole = false; behind = AtDoor place (Call node inc (Get name) answer) ∷ line }).is_whole
      → (other : VersionAt) → In other (one ∷ more) → FoundIn (AtDoor place (Call node inc (Get name) answer) ∷ line) other
  by_get one more place node inc name answer line rest false e finds f whole other among = absurd (false≢true whole)
  by_get one more place node inc name answer line rest true e false f whole other among = absurd (false≢true whole)
  by_get one more place node inc name answer line rest true e true f whole other (inl is) =
      subst (FoundIn (AtDoor place (Call node inc (Get name) answer) ∷ line)) (sym is)
      (found_here place node inc name answer line one (same_bytes (version_name one.key one.id) name (and_parts (same_incarnation who (incarnation node inc)) (bytes_eq (version_name one.key one.id) name) e).1) f)
  by_get one more place node inc name answer line rest true e true f whole other (inr later) = found_later (AtDoor place (Call node inc (Get name) answer)) line other (rest whole other later)

  pub all_found : (versions : List VersionAt) (line : List Turn) → IsTrue (copies who versions line).is_whole → (one : VersionAt) → In one versions → FoundIn line one
  all_found [] line whole one among = absurd among
  all_found (one ∷ more) (AtDoor place (Call node inc (Get name) answer) ∷ line) whole other among =
      by_get one more place node inc name answer line (λ w o a. all_found more line w o a) (same_incarnation who (incarnation node inc) && bytes_eq (version_name one.key one.id) name) refl (finds_copy one answer) refl whole other among
  all_found (one ∷ more) line whole other among = absurd (false≢true whole)
