-- Which UUID a word names.
use Rattle.std.proofs.Common.{Err, List, None, Ok, Option, Result, Some, ok_or, refl, sym, ℕ, ◌≡◌, ◌∙◌}
use Rattle.aft_id.specs.UuidText.{uuid_of_text}
use Rattle.aft_id.specs.declared.fault.IdFault.{IdFault}
use Rattle.aft_id.specs.declared.fault.IdFault.TheVariants as id
use Rattle.aft_script.specs.Values.{uuid_of}
use Rattle.aft_script.specs.declared.fault.LineFault.TheVariants.{BadUuid}

none_if_refused : (o : Option (List ℕ)) (e : IdFault) → ok_or o id.BadUuid ≡ Err e → o ≡ None
none_if_refused None e is = refl
none_if_refused (Some u) e is = absurd (cc)

pub uuid_of-read : (word text u : List ℕ) → text ≡ word → uuid_of_text text ≡ Some u → Ok u ≡ uuid_of word
uuid_of-read word text u same read =
    let here : uuid_of_text word ≡ Some u = rw same at read in
    rw here refl

pub uuid_of-refused : (word text : List ℕ) (r : Result (List ℕ) IdFault) (e : IdFault) → text ≡ word → r ≡ ok_or (uuid_of_text text) id.BadUuid → r ≡ Err e
    → Err BadUuid ≡ uuid_of word
uuid_of-refused word text r e same is refused =
    let none : uuid_of_text text ≡ None = none_if_refused (uuid_of_text text) e (sym is ∙ refused) in
    let here : uuid_of_text word ≡ None = rw same at none in
    rw here refl
