-- Functions are impure as their terms are, where what is one function from outside is pure alike.
use Rattle.std.proofs.Common.{◌≡◌, ◌∙◌, not, Some, slice_get, ap, arith}
use Rattle.std.proofs.lemmas.Grind.{common_steps}
use Rattle.model.specs.lists.Tables.{TermEntry}
use Rattle.model.specs.rules.Program.{Program, flags_of}
use Rattle.model_code.specs.Alike.{term_of}
use Rattle.model_code.specs.Notation.{Callee, extractor_of, constructor_of}
use Rattle.model_code.specs.ProgramNotation.{callees, function_number, is_same_function, outside_of}
use Rattle.model_code.specs.PureAlike.{ArePureAlike, is_impure_callee, is_impure_number}
use Rattle.model_code.proofs.Callees.{First, first, listed, same_self}
use Rattle.laws_code.specs.CalledAlike.{PureFunctionsCallAlike}

module _ (p : Program) (alike : ArePureAlike p) (f : Callee) (e : TermEntry) (there : slice_get p.terms (term_of f) ≡ Some e) where
  by_first : First (is_same_function p f) (callees p) → is_impure_number p (function_number p f) ≡ is_impure_callee p f
  by_first h = grind (arith, common_steps, listed 0 (term_of f) p.terms e f there, same_self (outside_of p f) f)

  numbered : is_impure_number p (function_number p f) ≡ is_impure_callee p f
  numbered = by_first (first (is_same_function p f) (callees p))

pub pure_functions_call_alike_lem : PureFunctionsCallAlike
pure_functions_call_alike_lem p alike kind is_logged = record {
  extractors = λ t e there matched. numbered p alike (extractor_of t) e there;
  constructors = λ t e flags infallible there called is. numbered p alike (constructor_of t) e there ∙ ap (λ k. not (flags_of k).pure) is;
}
