-- Patterns are read back.
use Rattle.std.proofs.Common.{◌≡◌, ◌<◌, ◌==◌, ◌∷◌, [], ℕ, suc, Bool, true, false, List, length, Option, Some, None, refl, ap, ◌∙◌, sym, arith}
use Rattle.std.proofs.lemmas.Bool.{and_parts, false≢true, eqb-true}
use Rattle.std.proofs.lemmas.Grind.{common_steps}
use Rattle.model.specs.sites.Sites.{Constraint, is_variant, is_struct, is_bool, is_int, is_prim, is_present}
use Rattle.model_code.specs.Tokens.{Owner, variant_owner, struct_owner, Token}
use Rattle.model_code.specs.Notation.{Notation}
use Rattle.model_code.specs.Pieces.{CodePiece, tokens_of, named_bindings, unnamed_bindings, pattern_before}
use Rattle.model_code.specs.Shown.{shown_constraint}
use Rattle.model_code.specs.Reading.{TokenReading, then_read, where_found, read_binding, next_field, read_named_bindings, read_unnamed_bindings, read_pattern}
use Rattle.model_code.specs.ReadsBack.{takes, pattern_writable}
use Rattle.model_code.proofs.Values.{comma_skipped}

-- 1. fields with names
-- a field that is bound further on isn't this one
no_field : (p : Notation) (o : Owner) (i j : ℕ) (bound : Bool) (fields : List (Option ℕ)) (rest : List CodePiece) → i < j → next_field o i bound (tokens_of (named_bindings p o j bound true fields rest)) ≡ None
no_field p o i j bound (None ∷ fields) rest h = no_field p o i (suc j) bound fields rest (omega arith)
no_field p o i j bound fields rest h = grind (arith, common_steps)

abbrev behind_gap : Owner → (i n : ℕ) → (bound : Bool) → List Token → TokenReading (List (Option ℕ))
behind_gap o i n bound later = then_read (read_named_bindings o (suc i) n bound true later) (λ fields end. Some (None ∷ fields, end))

abbrev with_binding : Owner → (i n : ℕ) → (lacking : Bool) → List Token → TokenReading (List (Option ℕ))
with_binding o i n lacking tokens = then_read (read_binding tokens) (λ v behind. then_read (read_named_bindings o (suc i) n true lacking behind) (λ fields end. Some (Some v ∷ fields, end)))

named_back : (p : Notation) (o : Owner) (i : ℕ) (bound lacking : Bool) (fields : List (Option ℕ)) (rest : List CodePiece)
    → read_named_bindings o i (length fields) bound lacking (tokens_of (named_bindings p o i bound lacking fields rest)) ≡ Some (fields, tokens_of rest)
named_back p o i bound lacking [] rest = grind arith
named_back p o i bound lacking (None ∷ fields) rest =
    let n : ℕ = length fields in
    ap (λ r. where_found r (with_binding o i n lacking) (behind_gap o i n bound) (tokens_of (named_bindings p o (suc i) bound true fields rest))) (no_field p o i (suc i) bound fields rest (omega arith))
    ∙ ap (λ r. then_read r (λ later end. Some (None ∷ later, end))) (named_back p o (suc i) bound true fields rest)
named_back p o i bound lacking (Some v ∷ fields) rest = grind (arith, common_steps, named_back p o (suc i) true lacking fields rest)

-- 2. fields in order
unnamed_back : (p : Notation) (o : Owner) (i : ℕ) (fields : List (Option ℕ)) (rest : List CodePiece) → read_unnamed_bindings i (length fields) (tokens_of (unnamed_bindings p o i fields rest)) ≡ Some (fields, tokens_of rest)
unnamed_back p o i [] rest = refl
unnamed_back p o i (field ∷ fields) rest = grind (arith, common_steps, unnamed_back p o (suc i) fields rest, comma_skipped)

-- 3. patterns
pub no_bindings : (fields : List (Option ℕ)) → (length fields == 0) ≡ true → fields ≡ []
no_bindings fields h = grind (arith, common_steps, eqb-true)

-- a named constant is no pattern
abbrev pub is_named : Constraint → Bool
is_named (is_prim name) = true
is_named c = false

pub pattern_back : (p : Notation) (c : Constraint) (fields : List (Option ℕ)) (rest : List CodePiece) → is_named c ≡ false → pattern_writable p c fields ≡ true
    → read_pattern p (tokens_of (pattern_before p c fields rest)) ≡ Some (record { constraint = shown_constraint p c; fields = fields }, tokens_of rest)
pattern_back p (is_variant ty variant n) fields rest c h =
    let hs = and_parts (takes (p.shape (variant_owner ty variant)) n) (length fields == n) h in
    grind (arith, common_steps, eqb-true, no_bindings, named_back, unnamed_back)
pattern_back p (is_struct ty n) fields rest c h =
    let hs = and_parts (takes (p.shape (struct_owner ty)) n) (length fields == n) h in
    grind (arith, common_steps, eqb-true, no_bindings, named_back, unnamed_back)
pattern_back p (is_bool b ty) fields rest c h = grind (arith, no_bindings)
pattern_back p (is_int z ty) fields rest c h = rw (no_bindings fields h)
pattern_back p (is_prim name) fields rest c h = absurd (false≢true (sym c))
pattern_back p is_present fields rest c h = grind (arith, common_steps, eqb-true)
