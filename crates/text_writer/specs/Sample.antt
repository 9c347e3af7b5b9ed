-- A spec and a model, to be printed: what the laws say of all trees, seen on two.
use Rattle.std.specs.Prelude.{ℕ, List, [], ◌∷◌, ◌++◌, codes, Some, None}
use Rattle.model.specs.lists.Syntax.{Name}
use Rattle.text_reader.specs.Solid.{nowhere}
use Rattle.text_reader.specs.SpecTrees.{spec_bits, spec_var, spec_op, no_spec_expr, spec_expr_and, bits_model, type_value, VerificationTree, a_spec, a_model}

abbrev named : List ℕ → Name
named text = record { text = text; at = nowhere }

abbrev pub sample : List VerificationTree
sample =
    (let x = spec_var (named (codes "x")) nowhere in
    let y = spec_var (named (codes "y")) nowhere in
    let sum = spec_op (named (codes "bvadd")) (spec_expr_and x (spec_expr_and y no_spec_expr)) nowhere in
    let result = spec_var (named (codes "result")) nowhere in
    let low = spec_op (named (codes "=")) (spec_expr_and y (spec_expr_and (spec_bits 31 8 nowhere) no_spec_expr)) nowhere in
    a_spec (record {
      term = named (codes "iadd");
      args = named (codes "x") ∷ named (codes "y") ∷ [];
      provides = Some (spec_expr_and (spec_op (named (codes "=")) (spec_expr_and result (spec_expr_and sum no_spec_expr)) nowhere) no_spec_expr);
      required = Some (spec_expr_and low no_spec_expr);
      matches = None;
      modifies = [];
      at = nowhere;
    }))
    ∷ a_model (record { name = named (codes "Imm8"); value = type_value (bits_model None nowhere); at = nowhere })
    ∷ []

abbrev pub sample_text : List ℕ
sample_text = codes "(spec (iadd x y) (provide (= result (bvadd x y))) (require (= y #x1f)))" ++ 10 ∷ (codes "(model Imm8 (type (bv)))" ++ 10 ∷ [])
