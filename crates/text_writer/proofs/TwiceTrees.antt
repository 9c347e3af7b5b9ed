-- Without its places a tree for a verifier has none to lose.
use Rattle.std.proofs.Common.{◌≡◌, refl, List, map, arith}
use Rattle.std.specs.Prelude.{Option, option_map}
use Rattle.std.proofs.lemmas.Grind.{common_steps}
use Rattle.text_reader.specs.Solid.{placeless_name}
use Rattle.text_writer.proofs.Twice.{map_twice}
use Rattle.text_reader.specs.SpecTrees.{SpecExprTree, spec_op, spec_cases, spec_let, spec_with, spec_as, spec_pair, SpecExprTrees, no_spec_expr, spec_expr_and, ModelTypeTree, SignatureTree, VerificationTree}
use Rattle.text_writer.specs.PlacelessTrees.{placeless_model_type, placeless_spec_expr, placeless_spec_exprs, placeless_signature, placeless_tree}

option_twice : {A : Type 0} (f : A → A) → ((x : A) → f (f x) ≡ f x) → (o : Option A) → option_map f (option_map f o) ≡ option_map f o
option_twice f twice o = grind (arith, common_steps)

model_type_twice : (t : ModelTypeTree) → placeless_model_type (placeless_model_type t) ≡ placeless_model_type t
model_type_twice t = grind (arith, common_steps)

mutual
  expr_twice : (x : SpecExprTree) → placeless_spec_expr (placeless_spec_expr x) ≡ placeless_spec_expr x
  expr_twice (spec_op op xs p) = rw (exprs_twice xs) refl
  expr_twice (spec_cases op x xs p) = rw (expr_twice x, exprs_twice xs) refl
  expr_twice (spec_let ds x p) = rw (exprs_twice ds, expr_twice x) refl
  expr_twice (spec_with ns x p) = rw ((map_twice placeless_name (λ n. refl) ns), expr_twice x) refl
  expr_twice (spec_as x t p) = rw (expr_twice x, model_type_twice t) refl
  expr_twice (spec_pair x y p) = rw (expr_twice x, expr_twice y) refl
  expr_twice _ = refl

  exprs_twice : (xs : SpecExprTrees) → placeless_spec_exprs (placeless_spec_exprs xs) ≡ placeless_spec_exprs xs
  exprs_twice no_spec_expr = refl
  exprs_twice (spec_expr_and x xs) = rw (expr_twice x, exprs_twice xs) refl

part_twice : (o : Option SpecExprTrees) → option_map placeless_spec_exprs (option_map placeless_spec_exprs o) ≡ option_map placeless_spec_exprs o
part_twice o = option_twice placeless_spec_exprs exprs_twice o

signature_twice : (s : SignatureTree) → placeless_signature (placeless_signature s) ≡ placeless_signature s
signature_twice s = rw (map_twice placeless_model_type model_type_twice s.args, model_type_twice s.ret, model_type_twice s.canonical) refl

signatures_twice : (ss : List SignatureTree) → map placeless_signature (map placeless_signature ss) ≡ map placeless_signature ss
signatures_twice ss = map_twice placeless_signature signature_twice ss

pub tree_twice : (v : VerificationTree) → placeless_tree (placeless_tree v) ≡ placeless_tree v
tree_twice v = grind (arith, common_steps, part_twice, map_twice, signatures_twice, model_type_twice, expr_twice)
