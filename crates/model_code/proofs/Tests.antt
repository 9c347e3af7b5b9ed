-- Tests are read back: what is compared with what, and which label is left.
use Rattle.std.proofs.Common.{◌≡◌, ◌⊎◌, ◌||◌, ◌∷◌, [], ℕ, Bool, true, false, not, List, Option, Some, is_some, refl, ◌∙◌, arith}
use Rattle.std.proofs.lemmas.Grind.{common_steps}
use Rattle.model.specs.sites.Sites.{Constraint, is_variant, is_struct, is_bool, is_int, is_prim, is_present}
use Rattle.model.proofs.SameSites.{number_same}
use Rattle.model_code.specs.Code.{name_written, Pass, as_it_is, lent, seen_through, PlaceUse}
use Rattle.model_code.specs.Tokens.{star, equal_to, opening_brace, closing_brace, break_word, Token, word, label_name}
use Rattle.model_code.specs.Notation.{Notation}
use Rattle.model_code.specs.Pieces.{CodePiece, tokens_of, put_if, put_between, use_before, constant_before, is_constant, is_seen_through, arm_pattern, label_number}
use Rattle.model_code.specs.Shown.{shown_use, shown_constraint, test_at}
use Rattle.model_code.specs.Reading.{TokenReading, then_read, read_use, Compared, a_use, read_compared, guard_of, guard_by, read_arm_pattern, read_break, Inner, read_sign, read_if}
use Rattle.model_code.specs.ReadsBack.{pattern_writable, is_looked_at, match_writable}
use Rattle.model_code.proofs.Uses.{follows, after_use}
use Rattle.model_code.proofs.Patterns.{no_bindings, pattern_back}

-- 1. what is compared: with a constant of an enum's or a struct's type a reference, or one that is made on the spot
abbrev pub is_plain : Pass → Bool
is_plain as_it_is = true
is_plain _ = false

abbrev pub match_plain : Notation → PlaceUse → Constraint → Bool
match_plain p u (is_prim name) = not (p.is_constant_composed name) || is_plain u.pass
match_plain p u c = true

pub plain_or_lent : (composed : Bool) (pass : Pass) → (not composed || is_looked_at pass) ≡ true → ((not composed || is_plain pass) ≡ true) ⊎ ((composed ≡ true) × (pass ≡ lent))
plain_or_lent composed pass h = grind (arith, common_steps)

abbrev pub seen : Bool → PlaceUse → PlaceUse
seen true u = record { place = u.place; pass = seen_through }
seen false u = u

pub plain_pass : (pass : Pass) → is_plain pass ≡ true → pass ≡ as_it_is
plain_pass pass h = grind (arith, common_steps)

compared_at : {B : Type 0} (composed : Bool) (p : Notation) (u : PlaceUse) (rest : List CodePiece) (go : PlaceUse → List Token → TokenReading B) → (composed ≡ true → is_plain u.pass ≡ true) → follows (tokens_of rest) ≡ true
    → then_read (read_use (tokens_of (put_if composed star (use_before p u rest)))) go ≡ go (seen composed (shown_use p u)) (tokens_of rest)
compared_at composed p u rest go h f = grind (arith, common_steps)

pub plain_where_seen : (p : Notation) (u : PlaceUse) (c : Constraint) → match_plain p u c ≡ true → is_seen_through p c ≡ true → is_plain u.pass ≡ true
plain_where_seen p u c h e = grind (arith, common_steps)

-- the first value of a comparison with a constant
pub after_compared : {B : Type 0} (p : Notation) (u : PlaceUse) (c : Constraint) (rest : List CodePiece) (go : PlaceUse → List Token → TokenReading B) → match_plain p u c ≡ true → follows (tokens_of rest) ≡ true
    → then_read (read_use (tokens_of (put_if (is_seen_through p c) star (use_before p u rest)))) go ≡ go (seen (is_seen_through p c) (shown_use p u)) (tokens_of rest)
after_compared p u c rest go h f = compared_at (is_seen_through p c) p u rest go (plain_where_seen p u c h) f

-- 2. what it is compared with
pub after_second : {B : Type 0} (p : Notation) (u : PlaceUse) (rest : List CodePiece) (go : Compared → List Token → TokenReading B) → follows (tokens_of rest) ≡ true
    → then_read (read_compared (tokens_of (use_before p u rest))) go ≡ go (a_use (shown_use p u)) (tokens_of rest)
after_second p u rest go f = grind (arith, after_use)

-- 3. a constant binds nothing, and how a test begins
pub constants_bind_nothing : (p : Notation) (c : Constraint) (fields : List (Option ℕ)) → is_constant c ≡ true → pattern_writable p c fields ≡ true → fields ≡ []
constants_bind_nothing p c fields h w = grind (arith, common_steps, no_bindings)

pub if_back : (composed : Bool) (p : Notation) (inner : Inner) (label : Option ℕ) (u : PlaceUse) (rest : List CodePiece) → (composed ≡ true → is_plain u.pass ≡ true)
    → read_if p inner label (tokens_of (put_if composed star (use_before p u rest))) ≡ then_read (read_use (tokens_of (put_if composed star (use_before p u rest)))) (read_sign p inner label)
if_back composed p inner label u rest h = grind (arith, common_steps)

-- 4. patterns of arms
guard_back : (p : Notation) (u : PlaceUse) (name : ℕ) (rest : List Token) → (p.is_constant_composed name ≡ true → is_plain u.pass ≡ true)
    → guard_of u (test_at p (seen (p.is_constant_composed name) u) (name_written name) as_it_is) rest ≡ Some (record { constraint = is_prim name; fields = [] }, rest)
guard_back p u name rest h = grind (arith, plain_pass)

plain_arm : (p : Notation) (u : PlaceUse) (name : ℕ) (rest : List CodePiece) → match_plain p u (is_prim name) ≡ true → follows (tokens_of rest) ≡ true
    → read_arm_pattern p (shown_use p u) (tokens_of (arm_pattern p u (is_prim name) [] rest)) ≡ Some (record { constraint = is_prim name; fields = [] }, tokens_of rest)
plain_arm p u name rest m f =
    grind (arith, common_steps)
    ∙ (after_compared p u (is_prim name) (put_between equal_to (constant_before p (is_prim name) rest)) (guard_by (shown_use p u) (test_at p)) m refl
    ∙ (grind (arith, common_steps, after_use, guard_back, plain_where_seen)))

pub arm_back : (p : Notation) (u : PlaceUse) (c : Constraint) (fields : List (Option ℕ)) (rest : List CodePiece) → pattern_writable p c fields ≡ true → match_writable p u c ≡ true → follows (tokens_of rest) ≡ true
    → read_arm_pattern p (shown_use p u) (tokens_of (arm_pattern p u c fields rest)) ≡ Some (record { constraint = shown_constraint p c; fields = fields }, tokens_of rest)
arm_back p u (is_prim name) fields rest w m f = rw (no_bindings fields w) (grind (arith, common_steps, plain_or_lent, plain_arm))
arm_back p u (is_variant ty variant n) fields rest w m f = pattern_back p (is_variant ty variant n) fields rest refl w
arm_back p u (is_struct ty n) fields rest w m f = pattern_back p (is_struct ty n) fields rest refl w
arm_back p u (is_bool b ty) fields rest w m f = grind (arith, common_steps, pattern_back)
arm_back p u (is_int z ty) fields rest w m f = pattern_back p (is_int z ty) fields rest refl w
arm_back p u is_present fields rest w m f = pattern_back p is_present fields rest refl w

-- 5. the label that is left
pub break_back : (label : Option ℕ) (rest : List Token) → is_some label ≡ true → read_break label (word opening_brace ∷ word break_word ∷ label_name (label_number label) ∷ word closing_brace ∷ rest) ≡ Some rest
break_back label rest h = grind (arith, common_steps, number_same)
