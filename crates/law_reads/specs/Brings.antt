-- The commits that a node is told of.
use Rattle.std.specs.Prelude.{Bool, List, [], not, ◌∷◌}
use Rattle.std.specs.List.{list_all}
use Rattle.aft_id.specs.TxnId.{same_id, zero_id}
use Rattle.aft_records.specs.declared.stored.Commit.{Commit}
use Rattle.aft_model.specs.declared.node.NodeAct.{NodeAct}
use Rattle.aft_model.specs.declared.node.NodeAct.TheVariants.{Boot, Learn, Stored}
use Rattle.aft_model.specs.declared.node.NodeEntry.{NodeEntry}

-- the commits that an act brings: those that a boot was shown, those that were learned, and the one that was stored
abbrev pub brings : NodeAct → List Commit
brings (Boot inc commits) = commits
brings (Learn commits) = commits
brings (Stored a c) = c ∷ []
brings act = []

-- whether a commit has another id than that of absent keys
abbrev pub is_real : Commit → Bool
is_real c = not (same_id zero_id c.id)

-- whether an act brings such commits alone
abbrev pub brings_real : NodeAct → Bool
brings_real act = list_all is_real (brings act)

-- whether each entry of a history does
abbrev pub are_real : List NodeEntry → Bool
are_real history = list_all (λ entry. brings_real entry.act) history
