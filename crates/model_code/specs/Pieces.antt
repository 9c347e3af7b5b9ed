-- The text of code in pieces, as it is laid out: tokens, white space, comments. Each definition gives the pieces of a part of the
-- code before the rest of them.
use Rattle.std.specs.Prelude.{ℕ, zero, suc, Bool, true, false, ◌||◌, List, [], ◌∷◌, Option, Some, None}
use Rattle.model.specs.lists.Syntax.{Position}
use Rattle.model.specs.sites.Sites.{Constraint, is_variant, is_struct, is_bool, is_int, is_prim, is_present}
use Rattle.model_code.specs.Code.{Place, variable, parameter, part_of, int_written, name_written, variant_written, struct_written, Pass, as_it_is, lent, cloned, seen_through, PlaceUse, Expr, truth_written, read, extraction, call, variant_of, struct_of, some_of, Block, no_statement, statement, Statement, bind, bind_some, no_way, match_on, if_equal, for_each_of, give, labelled, unless_let, unless_equal, CodeArms, no_code_arm, code_arm}
use Rattle.model_code.specs.Tokens.{Word, let_word, mut_word, ref_word, if_word, else_word, match_word, while_word, return_word, break_word, some_word, none_word, true_word, false_word, ctx_word, returns_word, extend_word, len_word, most_word, clone_word, iter_word, next_word, unreachable_word, opening, closing, opening_brace, closing_brace, comma, colon, semicolon, dot, two_dots, underscore, arrow, equals, equal_to, unlike, at_least, ampersand, star, Owner, variant_owner, struct_owner, Token, word, variable_name, parameter_name, part_name, number, constant_name, owner_name, field_name, function_name, list_name, label_name}
use Rattle.model_code.specs.Notation.{Notation, ReturnForm, gives_one, gives_option, gives_many, Shape, no_fields, named_fields, unnamed_fields, Callee, extractor_of, constructor_of}

pub data CodePiece : Type 0 where
  token : (t : Token) → CodePiece
  space : CodePiece
  -- the white space before a line, and its end
  set_in : (depth : ℕ) → CodePiece
  line_end : CodePiece
  -- the place of a rule: as a comment, and as what tells it to the log
  rule_comment : (at : Position) → CodePiece
  log_line : (at : Position) → CodePiece

-- what rustc reads, but for what tells the log a rule
abbrev pub tokens_of : List CodePiece → List Token
tokens_of [] = []
tokens_of (token t ∷ rest) = t ∷ tokens_of rest
tokens_of (_ ∷ rest) = tokens_of rest

-- how far the lines of a block are set in, and the number of the label next around
pub record Margin : Type 0 where
  pub depth : ℕ
  pub label : Option ℕ

abbrev pub inside : Margin → Margin
inside at = record { depth = suc at.depth; label = at.label }

abbrev pub label_at : Bool → ℕ → Option ℕ
label_at true n = Some n
label_at false n = None

-- within braces that have a label, whose number is how far its line is set in, or have none
abbrev pub in_braces_at : Bool → Margin → Margin
in_braces_at is_left at = record { depth = suc at.depth; label = label_at is_left at.depth }

abbrev pub put : Word → List CodePiece → List CodePiece
put w rest = token (word w) ∷ rest

-- with a space behind it, and around it
abbrev pub put_first : Word → List CodePiece → List CodePiece
put_first w rest = token (word w) ∷ space ∷ rest

abbrev pub put_between : Word → List CodePiece → List CodePiece
put_between w rest = space ∷ token (word w) ∷ space ∷ rest

abbrev pub put_all : List Word → List CodePiece → List CodePiece
put_all [] rest = rest
put_all (w ∷ ws) rest = token (word w) ∷ put_all ws rest

abbrev pub put_if : Bool → Word → List CodePiece → List CodePiece
put_if true w rest = token (word w) ∷ rest
put_if false w rest = rest

abbrev pub end_line : List CodePiece → List CodePiece
end_line rest = token (word semicolon) ∷ line_end ∷ rest

-- 1. places, and how they are handed on
abbrev pub place_before : Notation → Place → List CodePiece → List CodePiece
place_before p (variable v) rest = token (variable_name v) ∷ rest
place_before p (parameter i) rest = token (parameter_name i) ∷ rest
place_before p (part_of v i) rest = token (variable_name v) ∷ token (part_name i) ∷ rest
place_before p (int_written z ty) rest = token (number z (p.ending ty)) ∷ rest
place_before p (name_written name) rest = token (constant_name name) ∷ rest
place_before p (variant_written ty variant) rest = token (owner_name (variant_owner ty variant)) ∷ rest
place_before p (struct_written ty) rest = token (owner_name (struct_owner ty)) ∷ rest

abbrev pub clone_call : List Word
clone_call = dot ∷ clone_word ∷ opening ∷ closing ∷ []

abbrev pub passed_before : Notation → Place → Pass → List CodePiece → List CodePiece
passed_before p place as_it_is rest = place_before p place rest
passed_before p place lent rest = put ampersand (place_before p place rest)
passed_before p place cloned rest = place_before p place (put_all clone_call rest)
passed_before p place seen_through rest = put star (place_before p place rest)

abbrev pub use_before : Notation → PlaceUse → List CodePiece → List CodePiece
use_before p u rest = passed_before p u.place u.pass rest

-- 2. what a variable is bound to
abbrev pub truth_word : Bool → Word
truth_word true = true_word
truth_word false = false_word

-- what is handed to a function behind its context
abbrev pub args_before : Notation → List PlaceUse → List CodePiece → List CodePiece
args_before p [] rest = rest
args_before p (u ∷ us) rest = put_first comma (use_before p u (args_before p us rest))

abbrev pub called_before : Notation → Callee → List PlaceUse → List CodePiece → List CodePiece
called_before p f us rest = token (function_name (p.function f)) ∷ put_all (opening ∷ ctx_word ∷ []) (args_before p us rest)

-- before a field with a name, and before one without
abbrev pub gap_before : ℕ → List CodePiece → List CodePiece
gap_before zero rest = space ∷ rest
gap_before _ rest = put_first comma rest

abbrev pub comma_before : ℕ → List CodePiece → List CodePiece
comma_before zero rest = rest
comma_before _ rest = put_first comma rest

abbrev pub named_values : Notation → Owner → ℕ → List PlaceUse → List CodePiece → List CodePiece
named_values p o i [] rest = space ∷ put closing_brace rest
named_values p o i (u ∷ us) rest = gap_before i (token (field_name o i) ∷ put_first colon (use_before p u (named_values p o (suc i) us rest)))

abbrev pub unnamed_values : Notation → ℕ → List PlaceUse → List CodePiece → List CodePiece
unnamed_values p i [] rest = put closing rest
unnamed_values p i (u ∷ us) rest = comma_before i (use_before p u (unnamed_values p (suc i) us rest))

abbrev pub made_before : Notation → Owner → Shape → List PlaceUse → List CodePiece → List CodePiece
made_before p o no_fields us rest = rest
made_before p o (named_fields n) us rest = space ∷ put opening_brace (named_values p o 0 us rest)
made_before p o (unnamed_fields n) us rest = put opening (unnamed_values p 0 us rest)

-- a call of one answer, by reference where that is an enum or a struct
abbrev pub answer_before : Notation → Callee → List PlaceUse → List CodePiece → List CodePiece
answer_before p f us rest = put_if (p.gives_composed f) ampersand (called_before p f us (put closing rest))

abbrev pub expr_before : Notation → Expr → List CodePiece → List CodePiece
expr_before p (truth_written b ty) rest = put (truth_word b) rest
expr_before p (read u) rest = use_before p u rest
expr_before p (extraction term u) rest = answer_before p (extractor_of term) (u ∷ []) rest
expr_before p (call term us instance) rest = answer_before p (constructor_of term) us rest
expr_before p (variant_of ty variant us) rest = token (owner_name (variant_owner ty variant)) ∷ made_before p (variant_owner ty variant) (p.shape (variant_owner ty variant)) us rest
expr_before p (struct_of ty us) rest = token (owner_name (struct_owner ty)) ∷ made_before p (struct_owner ty) (p.shape (struct_owner ty)) us rest
expr_before p (some_of u) rest = put_all (some_word ∷ opening ∷ []) (use_before p u (put closing rest))

-- 3. patterns
abbrev pub put_first_if : Bool → Word → List CodePiece → List CodePiece
put_first_if true w rest = put_first w rest
put_first_if false w rest = rest

abbrev pub binding_before : Notation → Owner → ℕ → ℕ → List CodePiece → List CodePiece
binding_before p o i v rest = put_first_if (p.is_field_composed o i) ref_word (token (variable_name v) ∷ rest)

-- whether a field before is bound, and whether one isn't
abbrev pub fields_end : (bound lacking : Bool) → List CodePiece → List CodePiece
fields_end bound false rest = space ∷ put closing_brace rest
fields_end false true rest = put_first two_dots (put closing_brace rest)
fields_end true true rest = put_first comma (put_first two_dots (put closing_brace rest))

abbrev pub named_bindings : Notation → Owner → ℕ → (bound lacking : Bool) → List (Option ℕ) → List CodePiece → List CodePiece
named_bindings p o i bound lacking [] rest = fields_end bound lacking rest
named_bindings p o i bound lacking (None ∷ fields) rest = named_bindings p o (suc i) bound true fields rest
named_bindings p o i bound lacking (Some v ∷ fields) rest = put_first_if bound comma (token (field_name o i) ∷ put_first colon (binding_before p o i v (named_bindings p o (suc i) true lacking fields rest)))

abbrev pub place_in_order : Notation → Owner → ℕ → Option ℕ → List CodePiece → List CodePiece
place_in_order p o i (Some v) rest = binding_before p o i v rest
place_in_order p o i None rest = put underscore rest

abbrev pub unnamed_bindings : Notation → Owner → ℕ → List (Option ℕ) → List CodePiece → List CodePiece
unnamed_bindings p o i [] rest = put closing rest
unnamed_bindings p o i (field ∷ fields) rest = comma_before i (place_in_order p o i field (unnamed_bindings p o (suc i) fields rest))

abbrev pub bindings_before : Notation → Owner → Shape → List (Option ℕ) → List CodePiece → List CodePiece
bindings_before p o no_fields fields rest = rest
bindings_before p o (named_fields n) fields rest = put_between opening_brace (named_bindings p o 0 false false fields rest)
bindings_before p o (unnamed_fields n) fields rest = put opening (unnamed_bindings p o 0 fields rest)

-- what is in an option
abbrev pub inner_before : List (Option ℕ) → List CodePiece → List CodePiece
inner_before (Some v ∷ fields) rest = token (variable_name v) ∷ rest
inner_before _ rest = put underscore rest

abbrev pub constant_before : Notation → Constraint → List CodePiece → List CodePiece
constant_before p (is_bool b ty) rest = put (truth_word b) rest
constant_before p (is_int z ty) rest = token (number z (p.ending ty)) ∷ rest
constant_before p (is_prim name) rest = token (constant_name name) ∷ rest
constant_before p _ rest = rest

abbrev pub pattern_before : Notation → Constraint → List (Option ℕ) → List CodePiece → List CodePiece
pattern_before p (is_variant ty variant n) fields rest = put ampersand (token (owner_name (variant_owner ty variant)) ∷ bindings_before p (variant_owner ty variant) (p.shape (variant_owner ty variant)) fields rest)
pattern_before p (is_struct ty n) fields rest = put ampersand (token (owner_name (struct_owner ty)) ∷ bindings_before p (struct_owner ty) (p.shape (struct_owner ty)) fields rest)
pattern_before p is_present fields rest = put_all (some_word ∷ opening ∷ []) (inner_before fields (put closing rest))
pattern_before p c fields rest = constant_before p c rest

-- 4. tests
abbrev pub is_constant : Constraint → Bool
is_constant (is_bool b ty) = true
is_constant (is_int z ty) = true
is_constant (is_prim name) = true
is_constant _ = false

-- a constant of an enum's or a struct's type is compared with what a reference refers to
abbrev pub is_seen_through : Notation → Constraint → Bool
is_seen_through p (is_prim name) = p.is_constant_composed name
is_seen_through p _ = false

abbrev pub comparison_before : Notation → PlaceUse → Word → Constraint → List CodePiece → List CodePiece
comparison_before p u sign c rest = put_if (is_seen_through p c) star (use_before p u (put_between sign (constant_before p c rest)))

abbrev pub let_before : Notation → PlaceUse → Constraint → List (Option ℕ) → List CodePiece → List CodePiece
let_before p u c fields rest = put_first let_word (pattern_before p c fields (put_between equals (use_before p u rest)))

abbrev pub condition_before : Bool → Notation → PlaceUse → Constraint → List (Option ℕ) → List CodePiece → List CodePiece
condition_before true p u c fields rest = comparison_before p u equal_to c rest
condition_before false p u c fields rest = let_before p u c fields rest

-- a named constant is no pattern of an arm, so it is compared
abbrev pub arm_pattern : Notation → PlaceUse → Constraint → List (Option ℕ) → List CodePiece → List CodePiece
arm_pattern p u (is_prim name) fields rest = put_first underscore (put_first if_word (comparison_before p u equal_to (is_prim name) rest))
arm_pattern p u c fields rest = pattern_before p c fields rest

abbrev pub label_number : Option ℕ → ℕ
label_number (Some n) = n
label_number None = 0

-- { break 'at12 }
abbrev pub break_before : Margin → List CodePiece → List CodePiece
break_before at rest = put_between opening_brace (put_first break_word (token (label_name (label_number at.label)) ∷ space ∷ put closing_brace rest))

-- 5. lines
abbrev pub open_body : List CodePiece → List CodePiece
open_body rest = space ∷ put opening_brace (line_end ∷ rest)

abbrev pub close_body : Margin → List CodePiece → List CodePiece
close_body at rest = set_in at.depth ∷ put closing_brace (line_end ∷ rest)

-- let v5 = e;
abbrev pub one_line : Notation → Margin → ℕ → Expr → List CodePiece → List CodePiece
one_line p at v e rest = set_in at.depth ∷ put_first let_word (token (variable_name v) ∷ put_between equals (expr_before p e (end_line rest)))

-- let mut v5 = C::f_returns::default();
-- C::f(ctx, arg0, &mut v5);
abbrev pub many_lines : Notation → Margin → ℕ → Callee → List PlaceUse → List CodePiece → List CodePiece
many_lines p at v f us rest =
    set_in at.depth ∷ put_first let_word (put_first mut_word (token (variable_name v) ∷ put_between equals (token (list_name (p.list f)) ∷ end_line
    (set_in at.depth ∷ called_before p f us (put_first comma (put ampersand (put_first mut_word (token (variable_name v) ∷ put closing (end_line rest)))))))))

abbrev pub call_lines : Bool → Notation → Margin → ℕ → Callee → List PlaceUse → Expr → List CodePiece → List CodePiece
call_lines true p at v f us e rest = many_lines p at v f us rest
call_lines false p at v f us e rest = one_line p at v e rest

abbrev pub bind_lines : Notation → Margin → ℕ → Expr → List CodePiece → List CodePiece
bind_lines p at v (extraction term u) rest = call_lines (p.has_many (extractor_of term)) p at v (extractor_of term) (u ∷ []) (extraction term u) rest
bind_lines p at v (call term us instance) rest = call_lines (p.has_many (constructor_of term)) p at v (constructor_of term) us (call term us instance) rest
bind_lines p at v e rest = one_line p at v e rest

-- what a function does where a call on a right side gives nothing
abbrev pub failure_before : ReturnForm → List CodePiece → List CodePiece
failure_before gives_one rest = put_all (unreachable_word ∷ opening ∷ closing ∷ []) rest
failure_before gives_option rest = put_first return_word (put none_word rest)
failure_before gives_many rest = put return_word rest

abbrev pub bind_some_line : Notation → Margin → ℕ → PlaceUse → List CodePiece → List CodePiece
bind_some_line p at v u rest =
    set_in at.depth ∷ put_first let_word (put_all (some_word ∷ opening ∷ []) (token (variable_name v) ∷ put closing (put_between equals (use_before p u
    (put_between else_word (put_first opening_brace (failure_before p.kind (space ∷ put closing_brace (end_line rest)))))))))

abbrev pub log_lines : Bool → Margin → Position → List CodePiece → List CodePiece
log_lines true at place rest = set_in at.depth ∷ log_line place ∷ line_end ∷ rest
log_lines false at place rest = rest

-- the end of a result that is put into the list, and a return where the list is full
abbrev pub given_end : Margin → List CodePiece → List CodePiece
given_end at rest =
    put_all (closing ∷ closing ∷ []) (end_line
    (set_in at.depth ∷ put_first if_word (put_all (returns_word ∷ dot ∷ len_word ∷ opening ∷ closing ∷ []) (put_between at_least (put most_word
    (put_between opening_brace (put return_word (put_first semicolon (put closing_brace (line_end ∷ rest))))))))))

abbrev pub give_lines : ReturnForm → Notation → Margin → PlaceUse → List CodePiece → List CodePiece
give_lines gives_many p at u rest = put_all (returns_word ∷ dot ∷ extend_word ∷ opening ∷ some_word ∷ opening ∷ []) (use_before p u (given_end at rest))
give_lines _ p at u rest = put_first return_word (use_before p u (end_line rest))

abbrev pub result_lines : Notation → Margin → Position → PlaceUse → List CodePiece → List CodePiece
result_lines p at place u rest = set_in at.depth ∷ rule_comment place ∷ line_end ∷ log_lines p.is_logged at place (set_in at.depth ∷ give_lines p.kind p at u rest)

abbrev pub equal_head : Notation → Margin → PlaceUse → PlaceUse → List CodePiece → List CodePiece
equal_head p at a b rest = set_in at.depth ∷ put_first if_word (use_before p a (put_between equal_to (use_before p b (open_body rest))))

-- let mut v4 = v4.into_context_iter();
-- while let Some(v5) = v4.next(ctx) {
abbrev pub loop_head : Margin → (v from : ℕ) → List CodePiece → List CodePiece
loop_head at v from rest =
    set_in at.depth ∷ put_first let_word (put_first mut_word (token (variable_name from) ∷ put_between equals (token (variable_name from) ∷ put_all (dot ∷ iter_word ∷ opening ∷ closing ∷ []) (end_line
    (set_in at.depth ∷ put_first while_word (put_first let_word (put_all (some_word ∷ opening ∷ []) (token (variable_name v) ∷ put closing (put_between equals (token (variable_name from) ∷ put_all (dot ∷ next_word ∷ opening ∷ ctx_word ∷ closing ∷ []) (open_body rest)))))))))))

abbrev pub unless_line : Bool → Notation → Margin → PlaceUse → Constraint → List (Option ℕ) → List CodePiece → List CodePiece
unless_line true p at u c fields rest = set_in at.depth ∷ put_first if_word (comparison_before p u unlike c (break_before at (line_end ∷ rest)))
unless_line false p at u c fields rest = set_in at.depth ∷ let_before p u c fields (space ∷ put else_word (break_before at (end_line rest)))

abbrev pub unless_equal_line : Notation → Margin → PlaceUse → PlaceUse → List CodePiece → List CodePiece
unless_equal_line p at a b rest = set_in at.depth ∷ put_first if_word (use_before p a (put_between unlike (use_before p b (break_before at (line_end ∷ rest)))))

-- one arm is written as a test, several within a match
abbrev pub is_alone : CodeArms → Bool
is_alone (code_arm pattern fields body no_code_arm) = true
is_alone _ = false

abbrev pub match_head : Bool → Notation → Margin → PlaceUse → List CodePiece → List CodePiece
match_head true p at u rest = rest
match_head false p at u rest = set_in at.depth ∷ put_first match_word (use_before p u (open_body rest))

abbrev pub arms_at : Bool → Margin → Margin
arms_at true at = at
arms_at false at = inside at

abbrev pub arm_head : Bool → Notation → Margin → PlaceUse → Constraint → List (Option ℕ) → List CodePiece → List CodePiece
arm_head true p at u c fields rest = set_in at.depth ∷ put_first if_word (condition_before (is_constant c) p u c fields (open_body rest))
arm_head false p at u c fields rest = set_in at.depth ∷ arm_pattern p u c fields (space ∷ put arrow (open_body rest))

abbrev pub match_end : Bool → Margin → List CodePiece → List CodePiece
match_end true at rest = rest
match_end false at rest = set_in (suc at.depth) ∷ put_first underscore (put_first arrow (put_all (opening_brace ∷ closing_brace ∷ []) (line_end ∷ close_body at rest)))

abbrev pub label_before : Bool → Margin → List CodePiece → List CodePiece
label_before true at rest = token (label_name at.depth) ∷ put_first colon rest
label_before false at rest = rest

abbrev pub ends_function : ReturnForm → Bool
ends_function gives_many = false
ends_function _ = true

-- whether a result ends the function
abbrev pub result_ends : Notation → Bool
result_ends p = ends_function p.kind

-- nothing of a block is written behind a statement that nothing follows: a return that ends the function, and `unreachable!()`
abbrev pub is_end : (ends : Bool) → Statement → Bool
is_end ends no_way = true
is_end ends (give at u) = ends
is_end ends s = false

abbrev pub unless_end : {X : Type 0} → Bool → X → X → X
unless_end true ended later = ended
unless_end false ended later = later

-- whether a test that is written leaves the label next around
abbrev mutual
  pub is_left : (ends : Bool) → Block → Bool
  is_left ends no_statement = false
  is_left ends (statement s later) = leaves_at ends s || unless_end (is_end ends s) false (is_left ends later)

  pub leaves_at : (ends : Bool) → Statement → Bool
  leaves_at ends (match_on u arms) = leaves_arms ends arms
  leaves_at ends (if_equal a b body) = is_left ends body
  leaves_at ends (for_each_of v from body) = is_left ends body
  leaves_at ends (unless_let u pattern fields) = true
  leaves_at ends (unless_equal a b) = true
  leaves_at ends s = false

  pub leaves_arms : (ends : Bool) → CodeArms → Bool
  leaves_arms ends no_code_arm = false
  leaves_arms ends (code_arm pattern fields body rest) = is_left ends body || leaves_arms ends rest

-- 6. blocks
abbrev mutual
  pub block_before : Notation → Margin → Block → List CodePiece → List CodePiece
  block_before p at no_statement rest = rest
  block_before p at (statement s later) rest = statement_before p at s (unless_end (is_end (result_ends p) s) rest (block_before p at later rest))

  pub statement_before : Notation → Margin → Statement → List CodePiece → List CodePiece
  statement_before p at (bind v e) rest = bind_lines p at v e rest
  statement_before p at (bind_some v u) rest = bind_some_line p at v u rest
  statement_before p at no_way rest = set_in at.depth ∷ put_all (unreachable_word ∷ opening ∷ closing ∷ []) (end_line rest)
  statement_before p at (match_on u arms) rest = match_head (is_alone arms) p at u (arms_before (is_alone arms) p (arms_at (is_alone arms) at) u arms (match_end (is_alone arms) at rest))
  statement_before p at (if_equal a b body) rest = equal_head p at a b (block_before p (inside at) body (close_body at rest))
  statement_before p at (for_each_of v from body) rest = loop_head at v from (block_before p (inside at) body (close_body at rest))
  statement_before p at (give place u) rest = result_lines p at place u rest
  statement_before p at (labelled body) rest = set_in at.depth ∷ label_before (is_left (result_ends p) body) at (put opening_brace (line_end ∷ block_before p (in_braces_at (is_left (result_ends p) body) at) body (close_body at rest)))
  statement_before p at (unless_let u pattern fields) rest = unless_line (is_constant pattern) p at u pattern fields rest
  statement_before p at (unless_equal a b) rest = unless_equal_line p at a b rest

  pub arms_before : Bool → Notation → Margin → PlaceUse → CodeArms → List CodePiece → List CodePiece
  arms_before alone p at u no_code_arm rest = rest
  arms_before alone p at u (code_arm pattern fields body more) rest = arm_head alone p at u pattern fields (block_before p (inside at) body (close_body at (arms_before alone p at u more rest)))
