-- Functions that do the same have the same whole runs: by the depth to which calls nest.
use Rattle.std.proofs.Common.{◌≡◌, ℕ, zero, suc, Bool, List, [], ◌∷◌, sym, subst, inl, inr, arith}
use Rattle.std.proofs.lemmas.Grind.{common_steps}
use Rattle.model.specs.rules.Values.{listed}
use Rattle.model.specs.rules.Meaning.{Content, Meaning}
use Rattle.model.specs.rules.Outcome.{Call, Outcome}
use Rattle.model.specs.rules.Program.{Program, is_partial}
use Rattle.model.specs.claims.Layers.{AreLowered, LoweredTerm}
use Rattle.laws_code.proofs.TextRuns.{lowered_there}
use Rattle.laws_specs.specs.WholeRuns.{Outside, Functions, by_rules, has_rules, IsAnswer, Either, AreMadeCalls, IsAround, IsRun, WholeRun}
use Rattle.laws_specs.specs.ProgramLaws.{DoTheSame, RunTrees, RunCode, LikeFunctionsHaveLikeRuns, LoweredProgramsRunAsTheirSource}

either : (b : Bool) (A B C : Type 0) → (A → B) → Either b A C → Either b B C
either b A B C f x = grind (arith, common_steps)

-- what calls come to within, in place of others
module _ (N M : Call → List Call → Content → List Call → Type 0) (p : Program) (o : Outside) (so : (call : Call) (before : List Call) (c : Content) (after : List Call) → N call before c after → M call before c after) where
  made : (m : Meaning) (n : ℕ) (calls before after : List Call) → AreMadeCalls N p o m n calls before after → AreMadeCalls M p o m n calls before after
  made m n [] before after e = e
  made m n (call ∷ rest) before after a = grind (arith, common_steps, made m (suc n) rest a.1 after a.4, either)

  pub around : (call : Call) (m : Meaning) → IsAround N p o call m → IsAround M p o call m
  around call m r = record {
    literals = r.literals;
    constants = r.constants;
    extractors = r.extractors;
    pures = λ t vs a e. either (has_rules p t) _ _ _ (λ h calls. so (record { term = t; args = vs }) calls a calls (h calls)) (r.pures t vs a e);
    typed = r.typed;
    serves = r.serves;
    apart = r.apart;
  }

  pub within : (f g : Functions) (call : Call) (before : List Call) (c : Content) (after : List Call) → DoTheSame p f g → IsRun N p o f call before c after → IsRun M p o g call before c after
  within f g call before c after same r = record {
    known = r.known;
    single = r.single;
    meaning = r.meaning;
    around = around call r.meaning r.around;
    calls = subst (λ (x : Outcome). AreMadeCalls M p o r.meaning 0 x.calls before after) is (made r.meaning 0 _ before after r.calls);
    answer = subst (λ x. IsAnswer (is_partial p call.term) x c) is r.answer;
  }
    where
      is : f call.term r.meaning (listed call.args) ≡ g call.term r.meaning (listed call.args)
      is = same call.term r.known r.single r.meaning (listed call.args) r.around.typed r.around.serves r.around.apart

same_runs : (p : Program) (f g : Functions) (o : Outside) → DoTheSame p f g → (n : ℕ) (call : Call) (before : List Call) (c : Content) (after : List Call)
    → WholeRun f p o n call before c after → WholeRun g p o n call before c after
same_runs p f g o same zero call before c after r = r
same_runs p f g o same (suc n) call before c after r = grind (arith, same_runs p f g o same n, within)

pub turned : (p : Program) (f g : Functions) → DoTheSame p f g → DoTheSame p g f
turned p f g same t known single m args typed serves apart = sym (same t known single m args typed serves apart)

pub like_functions_have_like_runs_lem : LikeFunctionsHaveLikeRuns
like_functions_have_like_runs_lem p f g same o n call before c after = grind (arith, common_steps, same_runs)

-- the headline of each, by its tree or its code
pub trees_do : (p : Program) (terms : List LoweredTerm) (f : Functions) → AreLowered p terms → RunTrees p terms f → DoTheSame p f (by_rules p)
trees_do p terms f low runs t known single m args typed serves apart = grind (arith, common_steps, lowered_there p terms t low known)

pub code_does : (p : Program) (terms : List LoweredTerm) (f : Functions) → AreLowered p terms → RunCode p terms f → DoTheSame p f (by_rules p)
code_does p terms f low runs t known single m args typed serves apart = grind (arith, common_steps, lowered_there p terms t low known, lowered_there)

pub lowered_programs_run_as_their_source_lem : LoweredProgramsRunAsTheirSource
lowered_programs_run_as_their_source_lem p terms f low (inl runs) = like_functions_have_like_runs_lem p f (by_rules p) (trees_do p terms f low runs)
lowered_programs_run_as_their_source_lem p terms f low (inr runs) = like_functions_have_like_runs_lem p f (by_rules p) (code_does p terms f low runs)
