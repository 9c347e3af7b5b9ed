-- What the text of code shows of it. It doesn't show the type of a truth value, nor that of an integer where nothing stands behind
-- the digits; which of two terms is called that are one function, nor whether it is the term's extractor or its constructor;
-- which impure call of its rule a call is; the place of a rule, beside its line; what is behind a statement that nothing follows;
-- and which of two ways was taken to say one thing: a variant or a struct without fields that is read or made, a constant that is
-- compared or matched.
use Rattle.std.specs.Prelude.{ℕ, Bool, true, false, List, [], ◌∷◌, Option, Some, None}
use Rattle.model.specs.lists.Syntax.{Position}
use Rattle.model.specs.sites.Sites.{Constraint, is_bool, is_int, is_prim}
use Rattle.model_code.specs.Code.{Place, int_written, name_written, variant_written, struct_written, Pass, as_it_is, seen_through, PlaceUse, Expr, truth_written, read, extraction, call, variant_of, struct_of, some_of, Block, no_statement, statement, Statement, bind, bind_some, no_way, match_on, if_equal, for_each_of, give, labelled, unless_let, unless_equal, CodeArms, no_code_arm, code_arm}
use Rattle.model_code.specs.Tokens.{Owner, variant_owner, struct_owner}
use Rattle.model_code.specs.Notation.{Notation, Shape, no_fields, extractor_of, constructor_of}
use Rattle.model_code.specs.Pieces.{result_ends, is_end, unless_end}

abbrev pub nowhere : Position
nowhere = record { file = 0; offset = 0 }

abbrev pub shown_place : Notation → Place → Place
shown_place p (int_written z ty) = int_written z (p.ending ty)
shown_place p place = place

abbrev pub shown_use : Notation → PlaceUse → PlaceUse
shown_use p u = record { place = shown_place p u.place; pass = u.pass }

abbrev pub shown_uses : Notation → List PlaceUse → List PlaceUse
shown_uses p [] = []
shown_uses p (u ∷ us) = shown_use p u ∷ shown_uses p us

abbrev pub made_of : Owner → List PlaceUse → Expr
made_of (variant_owner ty variant) us = variant_of ty variant us
made_of (struct_owner ty) us = struct_of ty us

abbrev pub written_place : Owner → Place
written_place (variant_owner ty variant) = variant_written ty variant
written_place (struct_owner ty) = struct_written ty

abbrev pub shown_made : Owner → Shape → List PlaceUse → Expr
shown_made o no_fields us = read (record { place = written_place o; pass = as_it_is })
shown_made o _ us = made_of o us

abbrev pub shown_expr : Notation → Expr → Expr
shown_expr p (truth_written b ty) = truth_written b 0
shown_expr p (read u) = read (shown_use p u)
shown_expr p (extraction term u) = call (p.function (extractor_of term)) (shown_use p u ∷ []) 0
shown_expr p (call term us instance) = call (p.function (constructor_of term)) (shown_uses p us) 0
shown_expr p (variant_of ty variant us) = shown_made (variant_owner ty variant) (p.shape (variant_owner ty variant)) (shown_uses p us)
shown_expr p (struct_of ty us) = shown_made (struct_owner ty) (p.shape (struct_owner ty)) (shown_uses p us)
shown_expr p (some_of u) = some_of (shown_use p u)

abbrev pub shown_constraint : Notation → Constraint → Constraint
shown_constraint p (is_bool b ty) = is_bool b 0
shown_constraint p (is_int z ty) = is_int z (p.ending ty)
shown_constraint p c = c

-- a comparison of shown uses as a match, where the second is a constant: with what, and of what; a constant of an enum's or a
-- struct's type is compared with what a reference refers to
abbrev pub named_test : (composed : Bool) → Pass → PlaceUse → ℕ → Option (PlaceUse × Constraint)
named_test false pass a name = Some (a, is_prim name)
named_test true seen_through a name = Some (record { place = a.place; pass = as_it_is }, is_prim name)
named_test true _ a name = None

abbrev pub test_at : Notation → PlaceUse → Place → Pass → Option (PlaceUse × Constraint)
test_at p a (int_written z ending) as_it_is = Some (a, is_int z ending)
test_at p a (name_written name) as_it_is = named_test (p.is_constant_composed name) a.pass a name
test_at p a _ _ = None

abbrev pub equal_or_match : Option (PlaceUse × Constraint) → (a b : PlaceUse) → Block → Statement
equal_or_match None a b body = if_equal a b body
equal_or_match (Some test) a b body = match_on test.0 (code_arm test.1 [] body no_code_arm)

abbrev pub unless_either : Option (PlaceUse × Constraint) → (a b : PlaceUse) → Statement
unless_either None a b = unless_equal a b
unless_either (Some test) a b = unless_let test.0 test.1 []

abbrev mutual
  pub shown : Notation → Block → Block
  shown p no_statement = no_statement
  shown p (statement s later) = statement (shown_at p s) (unless_end (is_end (result_ends p) s) no_statement (shown p later))

  pub shown_at : Notation → Statement → Statement
  shown_at p (bind v e) = bind v (shown_expr p e)
  shown_at p (bind_some v u) = bind_some v (shown_use p u)
  shown_at p no_way = no_way
  shown_at p (match_on u arms) = match_on (shown_use p u) (shown_arms p arms)
  shown_at p (if_equal a b body) = equal_or_match (test_at p (shown_use p a) (shown_place p b.place) b.pass) (shown_use p a) (shown_use p b) (shown p body)
  shown_at p (for_each_of v from body) = for_each_of v from (shown p body)
  shown_at p (give place u) = give nowhere (shown_use p u)
  shown_at p (labelled body) = labelled (shown p body)
  shown_at p (unless_let u pattern fields) = unless_let (shown_use p u) (shown_constraint p pattern) fields
  shown_at p (unless_equal a b) = unless_either (test_at p (shown_use p a) (shown_place p b.place) b.pass) (shown_use p a) (shown_use p b)

  pub shown_arms : Notation → CodeArms → CodeArms
  shown_arms p no_code_arm = no_code_arm
  shown_arms p (code_arm pattern fields body rest) = code_arm (shown_constraint p pattern) fields (shown p body) (shown_arms p rest)
