-- Where a line comes with one step more, if its own steps lead it somewhere.
use Rattle.std.proofs.Common.{◌≡◌, ℕ, Bool, List, [], ◌∷◌, ◌++◌, sym, ap, ◌∙◌, append_assoc}
use Rattle.std.specs.Prelude.{Some, filter, if◌then◌else◌, map}
use Rattle.aft_model.specs.declared.script.Command.{Command}
use Rattle.aft_model.specs.ScanRun.{same_line}
use Rattle.aft_lines.specs.Advance.{advance, leads_to}
use Rattle.aft_lines.specs.CourseWords.{Ends}
use Rattle.aft_lines.specs.Progress.{Progress}
use Rattle.aft_lines.specs.Steps.{Made, own_steps}
use Rattle.law_claims.proofs.Moments.{own_same}
use Rattle.law_claims.proofs.Scenes.{by_itself}
use Rattle.law_runs.proofs.Come.{leads_before}
use Rattle.law_steps.proofs.Parts.{own-append}

-- a step leads its line from one position to another
pub record Leads (command : Command) (nodes : List ℕ) (ends : Ends) (before : List Made) (one : Made) : Type 0 where
  pub from : Progress
  pub to : Progress
  pub was : leads_to command nodes ends (own_steps one.by before) ≡ Some from
  pub now : leads_to command nodes ends (own_steps one.by (before ++ one ∷ [])) ≡ Some to
  pub goes : advance command nodes ends from one.turn ≡ Some to

pub leads : (command : Command) (nodes : List ℕ) (ends : Ends) (before rest : List Made) (one : Made) (p : Progress) → leads_to command nodes ends (own_steps one.by (before ++ one ∷ rest)) ≡ Some p → Leads command nodes ends before one
leads command nodes ends before rest one p is =
    let whole : own_steps one.by (before ++ one ∷ rest) ≡ (own_steps one.by before ++ one.turn ∷ []) ++ own_steps one.by rest =
    own-append one.by before (one ∷ rest)
    ∙ (ap (λ (b : Bool). own_steps one.by before ++ map (λ (m : Made). m.turn) (if b then one ∷ filter (λ (m : Made). same_line one.by m.by) rest else filter (λ (m : Made). same_line one.by m.by) rest)) (by_itself one.by)
    ∙ sym (append_assoc (own_steps one.by before) (one.turn ∷ []) (own_steps one.by rest))) in
    let led = leads_before command nodes ends (own_steps one.by before ++ one.turn ∷ []) (own_steps one.by rest) p (ap (leads_to command nodes ends) (sym whole) ∙ is) in
    let was = leads_before command nodes ends (own_steps one.by before) (one.turn ∷ []) led.0 led.1 in
    record {
      from = was.0;
      to = led.0;
      was = was.1;
      now = ap (leads_to command nodes ends) (own_same before one) ∙ led.1;
      goes = was.2;
    }
