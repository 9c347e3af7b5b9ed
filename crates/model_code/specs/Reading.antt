-- Tokens read back as code, from left to right. A reading is what was read and the tokens behind it.
use Rattle.std.specs.Prelude.{ℕ, zero, suc, Bool, true, false, ◌&&◌, ◌==◌, List, [], ◌∷◌, Option, Some, None}
use Rattle.std.specs.Ordering.{int_eq}
use Rattle.model.specs.sites.Sites.{Constraint, is_variant, is_struct, is_bool, is_int, is_prim, is_present}
use Rattle.model.specs.rules.Outcome.{then_option}
use Rattle.model_code.specs.Code.{Place, variable, parameter, part_of, int_written, name_written, variant_written, struct_written, Pass, as_it_is, lent, cloned, seen_through, PlaceUse, Expr, truth_written, read, call, some_of, Block, no_statement, statement, Statement, bind, bind_some, no_way, match_on, for_each_of, give, labelled, unless_let, CodeArms, no_code_arm, code_arm}
use Rattle.model_code.specs.Tokens.{Word, let_word, mut_word, ref_word, if_word, else_word, match_word, while_word, return_word, break_word, some_word, none_word, true_word, false_word, ctx_word, returns_word, extend_word, len_word, most_word, clone_word, iter_word, next_word, unreachable_word, opening, closing, opening_brace, closing_brace, comma, colon, semicolon, dot, two_dots, underscore, arrow, equals, equal_to, unlike, at_least, ampersand, star, Owner, variant_owner, struct_owner, Token, word, variable_name, parameter_name, part_name, number, constant_name, owner_name, field_name, function_name, list_name, label_name}
use Rattle.model_code.specs.Notation.{Notation, ReturnForm, gives_one, gives_option, gives_many, Shape, no_fields, named_fields, unnamed_fields}
use Rattle.model_code.specs.Pieces.{clone_call}
use Rattle.model_code.specs.Shown.{nowhere, made_of, written_place, test_at, equal_or_match, unless_either}

abbrev pub TokenReading : Type 0 → Type 0
TokenReading A = Option (A × List Token)

abbrev pub then_read : {A B : Type 0} → TokenReading A → (A → List Token → TokenReading B) → TokenReading B
then_read None go = None
then_read (Some r) go = go r.0 r.1

-- what is read behind tokens where they are there, else
abbrev pub where_found : {A : Type 0} → Option (List Token) → (found other : List Token → TokenReading A) → List Token → TokenReading A
where_found (Some rest) found other tokens = found rest
where_found None found other tokens = other tokens

abbrev pub where_read : {A B : Type 0} → TokenReading A → (A → List Token → TokenReading B) → (List Token → TokenReading B) → List Token → TokenReading B
where_read (Some r) found other tokens = found r.0 r.1
where_read None found other tokens = other tokens

-- 1. single tokens
abbrev pub order_of : Word → ℕ
order_of let_word = 0
order_of mut_word = 1
order_of ref_word = 2
order_of if_word = 3
order_of else_word = 4
order_of match_word = 5
order_of while_word = 6
order_of return_word = 7
order_of break_word = 8
order_of some_word = 9
order_of none_word = 10
order_of true_word = 11
order_of false_word = 12
order_of ctx_word = 13
order_of returns_word = 14
order_of extend_word = 15
order_of len_word = 16
order_of most_word = 17
order_of clone_word = 18
order_of iter_word = 19
order_of next_word = 20
order_of unreachable_word = 21
order_of opening = 22
order_of closing = 23
order_of opening_brace = 24
order_of closing_brace = 25
order_of comma = 26
order_of colon = 27
order_of semicolon = 28
order_of dot = 29
order_of two_dots = 30
order_of underscore = 31
order_of arrow = 32
order_of equals = 33
order_of equal_to = 34
order_of unlike = 35
order_of at_least = 36
order_of ampersand = 37
order_of star = 38

abbrev pub same_word : Word → Word → Bool
same_word v w = order_of v == order_of w

abbrev pub same_owner : Owner → Owner → Bool
same_owner (variant_owner ty i) (variant_owner uy j) = (ty == uy) && (i == j)
same_owner (struct_owner ty) (struct_owner uy) = ty == uy
same_owner _ _ = false

abbrev pub only_if : {A : Type 0} → Bool → A → Option A
only_if true x = Some x
only_if false x = None

abbrev pub expect : Word → List Token → Option (List Token)
expect w (word v ∷ rest) = only_if (same_word w v) rest
expect w _ = None

abbrev pub expect_all : List Word → List Token → Option (List Token)
expect_all [] tokens = Some tokens
expect_all (w ∷ ws) tokens = then_option (expect w tokens) (expect_all ws)

abbrev pub read_variable : List Token → TokenReading ℕ
read_variable (variable_name v ∷ rest) = Some (v, rest)
read_variable _ = None

abbrev pub expect_variable : ℕ → List Token → Option (List Token)
expect_variable v (variable_name w ∷ rest) = only_if (v == w) rest
expect_variable v _ = None

abbrev pub expect_field : Owner → ℕ → List Token → Option (List Token)
expect_field o i (field_name q j ∷ rest) = then_option (only_if (same_owner o q && (i == j)) rest) (expect colon)
expect_field o i _ = None

-- 2. places, and how they are handed on
abbrev pub of_variable : ℕ → List Token → TokenReading Place
of_variable v (part_name i ∷ rest) = Some (part_of v i, rest)
of_variable v rest = Some (variable v, rest)

abbrev pub read_place : List Token → TokenReading Place
read_place (variable_name v ∷ rest) = of_variable v rest
read_place (parameter_name i ∷ rest) = Some (parameter i, rest)
read_place (number z ending ∷ rest) = Some (int_written z ending, rest)
read_place (constant_name name ∷ rest) = Some (name_written name, rest)
read_place (owner_name o ∷ rest) = Some (written_place o, rest)
read_place _ = None

abbrev pub use_of : Pass → Place → List Token → TokenReading PlaceUse
use_of pass place rest = Some (record { place = place; pass = pass }, rest)

abbrev pub cloned_or_not : Place → List Token → Option (List Token) → TokenReading PlaceUse
cloned_or_not place tokens (Some rest) = use_of cloned place rest
cloned_or_not place tokens None = use_of as_it_is place tokens

abbrev pub read_use : List Token → TokenReading PlaceUse
read_use (word ampersand ∷ rest) = then_read (read_place rest) (use_of lent)
read_use (word star ∷ rest) = then_read (read_place rest) (use_of seen_through)
read_use tokens = then_read (read_place tokens) (λ place rest. cloned_or_not place rest (expect_all clone_call rest))

-- 3. what a variable is bound to
abbrev pub unless_mut : List Token → Option (List Token)
unless_mut (word ampersand ∷ word mut_word ∷ rest) = None
unless_mut tokens = Some tokens

-- behind a comma, unless the list for many answers follows
abbrev pub next_arg : List Token → Option (List Token)
next_arg tokens = then_option (expect comma tokens) unless_mut

abbrev pub read_args : ℕ → List Token → TokenReading (List PlaceUse)
read_args zero tokens = None
read_args (suc n) tokens = where_found (next_arg tokens) (λ rest. then_read (read_use rest) (λ u behind. then_read (read_args n behind) (λ us end. Some (u ∷ us, end)))) (λ end. Some ([], end)) tokens

-- up to the parenthesis that ends a call
abbrev pub read_call : ℕ → ℕ → List Token → TokenReading Expr
read_call n f tokens = then_option (expect_all (opening ∷ ctx_word ∷ []) tokens) (λ rest. then_read (read_args n rest) (λ us behind. Some (call f us 0, behind)))

abbrev pub read_answer : ℕ → ℕ → List Token → TokenReading Expr
read_answer n f tokens = then_read (read_call n f tokens) (λ e rest. then_option (expect closing rest) (λ behind. Some (e, behind)))

abbrev pub skip_comma : ℕ → List Token → Option (List Token)
skip_comma zero tokens = Some tokens
skip_comma _ tokens = expect comma tokens

-- so many fields from the i-th on
abbrev pub read_named_values : Owner → (i n : ℕ) → List Token → TokenReading (List PlaceUse)
read_named_values o i zero tokens = then_option (expect closing_brace tokens) (λ rest. Some ([], rest))
read_named_values o i (suc n) tokens =
    then_option (then_option (skip_comma i tokens) (expect_field o i)) (λ rest. then_read (read_use rest) (λ u behind. then_read (read_named_values o (suc i) n behind) (λ us end. Some (u ∷ us, end))))

abbrev pub read_unnamed_values : (i n : ℕ) → List Token → TokenReading (List PlaceUse)
read_unnamed_values i zero tokens = then_option (expect closing tokens) (λ rest. Some ([], rest))
read_unnamed_values i (suc n) tokens =
    then_option (skip_comma i tokens) (λ rest. then_read (read_use rest) (λ u behind. then_read (read_unnamed_values (suc i) n behind) (λ us end. Some (u ∷ us, end))))

abbrev pub made_with : Owner → TokenReading (List PlaceUse) → TokenReading Expr
made_with o r = then_read r (λ us rest. Some (made_of o us, rest))

abbrev pub read_named_made : Owner → Shape → List Token → TokenReading Expr
read_named_made o (named_fields n) tokens = made_with o (read_named_values o 0 n tokens)
read_named_made o _ tokens = None

abbrev pub read_unnamed_made : Owner → Shape → List Token → TokenReading Expr
read_unnamed_made o (unnamed_fields n) tokens = made_with o (read_unnamed_values 0 n tokens)
read_unnamed_made o _ tokens = None

abbrev pub read_some : List Token → TokenReading Expr
read_some tokens = then_option (expect opening tokens) (λ rest. then_read (read_use rest) (λ u behind. then_option (expect closing behind) (λ end. Some (some_of u, end))))

abbrev pub read_expr : Notation → ℕ → List Token → TokenReading Expr
read_expr p n (word true_word ∷ rest) = Some (truth_written true 0, rest)
read_expr p n (word false_word ∷ rest) = Some (truth_written false 0, rest)
read_expr p n (word some_word ∷ rest) = read_some rest
read_expr p n (word ampersand ∷ function_name f ∷ rest) = read_answer n f rest
read_expr p n (function_name f ∷ rest) = read_answer n f rest
read_expr p n (owner_name o ∷ word opening_brace ∷ rest) = read_named_made o (p.shape o) rest
read_expr p n (owner_name o ∷ word opening ∷ rest) = read_unnamed_made o (p.shape o) rest
read_expr p n tokens = then_read (read_use tokens) (λ u rest. Some (read u, rest))

-- 4. patterns
pub record Pattern : Type 0 where
  pub constraint : Constraint
  pub fields : List (Option ℕ)

abbrev pub read_binding : List Token → TokenReading ℕ
read_binding (word ref_word ∷ rest) = read_variable rest
read_binding tokens = read_variable tokens

abbrev pub end_words : (bound lacking : Bool) → List Word
end_words bound false = closing_brace ∷ []
end_words false true = two_dots ∷ closing_brace ∷ []
end_words true true = comma ∷ two_dots ∷ closing_brace ∷ []

abbrev pub skip_comma_if : Bool → List Token → Option (List Token)
skip_comma_if true tokens = expect comma tokens
skip_comma_if false tokens = Some tokens

abbrev pub next_field : Owner → ℕ → (bound : Bool) → List Token → Option (List Token)
next_field o i bound tokens = then_option (skip_comma_if bound tokens) (expect_field o i)

-- so many fields from the i-th on: those that aren't there aren't bound
abbrev pub read_named_bindings : Owner → (i n : ℕ) → (bound lacking : Bool) → List Token → TokenReading (List (Option ℕ))
read_named_bindings o i zero bound lacking tokens = then_option (expect_all (end_words bound lacking) tokens) (λ rest. Some ([], rest))
read_named_bindings o i (suc n) bound lacking tokens =
    where_found (next_field o i bound tokens) (λ rest. then_read (read_binding rest) (λ v behind. then_read (read_named_bindings o (suc i) n true lacking behind) (λ fields end. Some (Some v ∷ fields, end))))
    (λ later. then_read (read_named_bindings o (suc i) n bound true later) (λ fields end. Some (None ∷ fields, end))) tokens

abbrev pub read_in_order : List Token → TokenReading (Option ℕ)
read_in_order (word underscore ∷ rest) = Some (None, rest)
read_in_order tokens = then_read (read_binding tokens) (λ v rest. Some (Some v, rest))

abbrev pub read_unnamed_bindings : (i n : ℕ) → List Token → TokenReading (List (Option ℕ))
read_unnamed_bindings i zero tokens = then_option (expect closing tokens) (λ rest. Some ([], rest))
read_unnamed_bindings i (suc n) tokens =
    then_option (skip_comma i tokens) (λ rest. then_read (read_in_order rest) (λ field behind. then_read (read_unnamed_bindings (suc i) n behind) (λ fields end. Some (field ∷ fields, end))))

abbrev pub asked_of : Owner → ℕ → Constraint
asked_of (variant_owner ty variant) n = is_variant ty variant n
asked_of (struct_owner ty) n = is_struct ty n

abbrev pub pattern_with : Constraint → TokenReading (List (Option ℕ)) → TokenReading Pattern
pattern_with c r = then_read r (λ fields rest. Some (record { constraint = c; fields = fields }, rest))

abbrev pub read_bindings : Owner → Shape → List Token → TokenReading Pattern
read_bindings o no_fields tokens = Some (record { constraint = asked_of o 0; fields = [] }, tokens)
read_bindings o (named_fields n) tokens = pattern_with (asked_of o n) (then_option (expect opening_brace tokens) (read_named_bindings o 0 n false false))
read_bindings o (unnamed_fields n) tokens = pattern_with (asked_of o n) (then_option (expect opening tokens) (read_unnamed_bindings 0 n))

-- what is in an option
abbrev pub read_inner : List Token → TokenReading (List (Option ℕ))
read_inner (word underscore ∷ rest) = Some (None ∷ [], rest)
read_inner tokens = then_read (read_variable tokens) (λ v rest. Some (Some v ∷ [], rest))

abbrev pub read_present : List Token → TokenReading Pattern
read_present tokens = then_option (expect opening tokens) (λ rest. then_read (read_inner rest) (λ fields behind. then_option (expect closing behind) (λ end. Some (record { constraint = is_present; fields = fields }, end))))

abbrev pub read_pattern : Notation → List Token → TokenReading Pattern
read_pattern p (word ampersand ∷ owner_name o ∷ rest) = read_bindings o (p.shape o) rest
read_pattern p (word some_word ∷ rest) = read_present rest
read_pattern p (word true_word ∷ rest) = Some (record { constraint = is_bool true 0; fields = [] }, rest)
read_pattern p (word false_word ∷ rest) = Some (record { constraint = is_bool false 0; fields = [] }, rest)
read_pattern p (number z ending ∷ rest) = Some (record { constraint = is_int z ending; fields = [] }, rest)
read_pattern p _ = None

-- 5. tests. What is compared with: a truth value, or what is read
pub data Compared : Type 0 where
  a_truth : (b : Bool) → Compared
  a_use : (u : PlaceUse) → Compared

abbrev pub read_compared : List Token → TokenReading Compared
read_compared (word true_word ∷ rest) = Some (a_truth true, rest)
read_compared (word false_word ∷ rest) = Some (a_truth false, rest)
read_compared tokens = then_read (read_use tokens) (λ u rest. Some (a_use u, rest))

abbrev pub equal_of : Notation → PlaceUse → Compared → Block → Statement
equal_of p a (a_truth b) body = match_on a (code_arm (is_bool b 0) [] body no_code_arm)
equal_of p a (a_use b) body = equal_or_match (test_at p a b.place b.pass) a b body

abbrev pub unless_of : Notation → PlaceUse → Compared → Statement
unless_of p a (a_truth b) = unless_let a (is_bool b 0) []
unless_of p a (a_use b) = unless_either (test_at p a b.place b.pass) a b

abbrev pub same_place : Place → Place → Bool
same_place (variable v) (variable w) = v == w
same_place (parameter i) (parameter j) = i == j
same_place (part_of v i) (part_of w j) = (v == w) && (i == j)
same_place (int_written y ty) (int_written z uy) = int_eq y z && (ty == uy)
same_place (name_written m) (name_written n) = m == n
same_place (variant_written ty i) (variant_written uy j) = (ty == uy) && (i == j)
same_place (struct_written ty) (struct_written uy) = ty == uy
same_place _ _ = false

abbrev pub same_pass : Pass → Pass → Bool
same_pass as_it_is as_it_is = true
same_pass lent lent = true
same_pass cloned cloned = true
same_pass seen_through seen_through = true
same_pass _ _ = false

abbrev pub same_use : PlaceUse → PlaceUse → Bool
same_use t u = same_place t.place u.place && same_pass t.pass u.pass

-- a named constant, compared with what is matched
abbrev pub guard_of : PlaceUse → Option (PlaceUse × Constraint) → List Token → TokenReading Pattern
guard_of u (Some test) rest = only_if (same_use u test.0) (record { constraint = test.1; fields = [] }, rest)
guard_of u None rest = None

-- a constant of an enum's or a struct's type, compared with `*&v`
abbrev pub lent_test : Notation → PlaceUse → Place → Pass → Option (PlaceUse × Constraint)
lent_test p a (name_written name) as_it_is = only_if (p.is_constant_composed name) (a, is_prim name)
lent_test p a _ _ = None

abbrev pub guard_by : PlaceUse → (PlaceUse → Place → Pass → Option (PlaceUse × Constraint)) → PlaceUse → List Token → TokenReading Pattern
guard_by u test a tokens = then_option (expect equal_to tokens) (λ later. then_read (read_use later) (λ b end. guard_of u (test a b.place b.pass) end))

abbrev pub read_compared_guard : Notation → PlaceUse → List Token → TokenReading Pattern
read_compared_guard p u (word star ∷ word ampersand ∷ tokens) = then_read (read_use (word ampersand ∷ tokens)) (guard_by u (lent_test p))
read_compared_guard p u tokens = then_read (read_use tokens) (guard_by u (test_at p))

abbrev pub read_guard : Notation → PlaceUse → List Token → TokenReading Pattern
read_guard p u tokens = then_option (expect if_word tokens) (read_compared_guard p u)

abbrev pub read_arm_pattern : Notation → PlaceUse → List Token → TokenReading Pattern
read_arm_pattern p u (word underscore ∷ rest) = read_guard p u rest
read_arm_pattern p u tokens = read_pattern p tokens

abbrev pub is_that : Option ℕ → ℕ → Bool
is_that (Some m) n = m == n
is_that None n = false

-- { break 'at12 } where that is the label next around
abbrev pub read_label : Option ℕ → List Token → Option (List Token)
read_label label (label_name n ∷ rest) = then_option (only_if (is_that label n) rest) (expect closing_brace)
read_label label _ = None

abbrev pub read_break : Option ℕ → List Token → Option (List Token)
read_break label tokens = then_option (expect_all (opening_brace ∷ break_word ∷ []) tokens) (read_label label)

-- 6. statements. `inner` reads a block within a label of this number, or within none
abbrev pub Inner : Type 0
Inner = Option ℕ → List Token → TokenReading Block

abbrev pub read_body : Inner → Option ℕ → List Token → TokenReading Block
read_body inner label tokens =
    then_option (expect opening_brace tokens) (λ rest. then_read (inner label rest) (λ body behind. then_option (expect closing_brace behind) (λ end. Some (body, end))))

abbrev pub failure_words : ReturnForm → List Word
failure_words gives_one = unreachable_word ∷ opening ∷ closing ∷ closing_brace ∷ semicolon ∷ []
failure_words gives_option = return_word ∷ none_word ∷ closing_brace ∷ semicolon ∷ []
failure_words gives_many = return_word ∷ closing_brace ∷ semicolon ∷ []

abbrev pub done : {A : Type 0} → A → Option (List Token) → TokenReading A
done x rest = then_option rest (λ end. Some (x, end))

-- behind `let P = u else`: the label is left, or the function gives nothing
abbrev pub read_failure : ReturnForm → List (Option ℕ) → PlaceUse → List Token → TokenReading Statement
read_failure kind (Some v ∷ []) u tokens = done (bind_some v u) (expect_all (opening_brace ∷ failure_words kind) tokens)
read_failure kind _ u tokens = None

abbrev pub read_else : ReturnForm → Option ℕ → Pattern → PlaceUse → List Token → TokenReading Statement
read_else kind label pattern u tokens = where_found (read_break label tokens) (λ rest. done (unless_let u pattern.constraint pattern.fields) (expect semicolon rest)) (read_failure kind pattern.fields u) tokens

-- behind `let`, where a pattern follows
abbrev pub read_let_pattern : Notation → Option ℕ → List Token → TokenReading Statement
read_let_pattern p label tokens =
    then_read (read_pattern p tokens) (λ pattern rest. then_option (expect equals rest) (λ behind. then_read (read_use behind) (λ u later. then_option (expect else_word later) (read_else p.kind label pattern u))))

-- behind the list for many answers
abbrev pub read_many : ℕ → ℕ → List Token → TokenReading Statement
read_many n v (function_name f ∷ tokens) =
    then_read (read_call n f tokens) (λ e rest. done (bind v e) (then_option (then_option (expect_all (comma ∷ ampersand ∷ mut_word ∷ []) rest) (expect_variable v)) (expect_all (closing ∷ semicolon ∷ []))))
read_many n v _ = None

abbrev pub read_loop : Inner → Option ℕ → ℕ → List Token → TokenReading Statement
read_loop inner label from tokens =
    then_option (expect_all (dot ∷ iter_word ∷ opening ∷ closing ∷ semicolon ∷ while_word ∷ let_word ∷ some_word ∷ opening ∷ []) tokens) (λ rest. then_read (read_variable rest) (λ v behind.
    then_option (then_option (expect_all (closing ∷ equals ∷ []) behind) (expect_variable from)) (λ later. then_option (expect_all (dot ∷ next_word ∷ opening ∷ ctx_word ∷ closing ∷ []) later) (λ body.
    then_read (read_body inner label body) (λ b end. Some (for_each_of v from b, end))))))

-- behind `let mut v =`
abbrev pub read_mut : ℕ → Inner → Option ℕ → ℕ → List Token → TokenReading Statement
read_mut n inner label v (list_name l ∷ tokens) = then_option (expect semicolon tokens) (read_many n v)
read_mut n inner label v (variable_name from ∷ tokens) = then_option (only_if (v == from) tokens) (read_loop inner label v)
read_mut n inner label v _ = None

abbrev pub read_let : Notation → ℕ → Inner → Option ℕ → List Token → TokenReading Statement
read_let p n inner label (word mut_word ∷ tokens) = then_read (read_variable tokens) (λ v rest. then_option (expect equals rest) (read_mut n inner label v))
read_let p n inner label (variable_name v ∷ tokens) = then_option (expect equals tokens) (λ rest. then_read (read_expr p n rest) (λ e behind. done (bind v e) (expect semicolon behind)))
read_let p n inner label tokens = read_let_pattern p label tokens

-- behind `if let`
abbrev pub read_if_let : Notation → Inner → Option ℕ → List Token → TokenReading Statement
read_if_let p inner label tokens =
    then_read (read_pattern p tokens) (λ pattern rest. then_option (expect equals rest) (λ behind. then_read (read_use behind) (λ u later. then_read (read_body inner label later) (λ body end.
    Some (match_on u (code_arm pattern.constraint pattern.fields body no_code_arm), end)))))

-- behind what is compared
abbrev pub read_sign : Notation → Inner → Option ℕ → PlaceUse → List Token → TokenReading Statement
read_sign p inner label a (word equal_to ∷ tokens) = then_read (read_compared tokens) (λ b rest. then_read (read_body inner label rest) (λ body end. Some (equal_of p a b body, end)))
read_sign p inner label a (word unlike ∷ tokens) = then_read (read_compared tokens) (λ b rest. done (unless_of p a b) (read_break label rest))
read_sign p inner label a _ = None

-- behind `*&v`
abbrev pub read_lent_sign : Notation → Inner → Option ℕ → PlaceUse → List Token → TokenReading Statement
read_lent_sign p inner label a (word equal_to ∷ tokens) =
    then_read (read_use tokens) (λ b rest. then_option (lent_test p a b.place b.pass) (λ test. then_read (read_body inner label rest) (λ body end. Some (match_on test.0 (code_arm test.1 [] body no_code_arm), end))))
read_lent_sign p inner label a (word unlike ∷ tokens) = then_read (read_use tokens) (λ b rest. then_option (lent_test p a b.place b.pass) (λ test. done (unless_let test.0 test.1 []) (read_break label rest)))
read_lent_sign p inner label a _ = None

abbrev pub read_if : Notation → Inner → Option ℕ → List Token → TokenReading Statement
read_if p inner label (word let_word ∷ tokens) = read_if_let p inner label tokens
read_if p inner label (word star ∷ word ampersand ∷ tokens) = then_read (read_use (word ampersand ∷ tokens)) (read_lent_sign p inner label)
read_if p inner label tokens = then_read (read_use tokens) (read_sign p inner label)

abbrev pub last_arm : List Word
last_arm = underscore ∷ arrow ∷ opening_brace ∷ closing_brace ∷ closing_brace ∷ []

abbrev pub read_arms : Notation → Inner → Option ℕ → PlaceUse → ℕ → List Token → TokenReading CodeArms
read_arms p inner label u zero tokens = None
read_arms p inner label u (suc n) tokens =
    where_found (expect_all last_arm tokens) (λ end. Some (no_code_arm, end)) (λ arm. then_read (read_arm_pattern p u arm) (λ pattern rest. then_option (expect arrow rest) (λ behind. then_read (read_body inner label behind) (λ body later.
    then_read (read_arms p inner label u n later) (λ arms end. Some (code_arm pattern.constraint pattern.fields body arms, end)))))) tokens

abbrev pub read_match : Notation → ℕ → Inner → Option ℕ → List Token → TokenReading Statement
read_match p n inner label tokens =
    then_read (read_use tokens) (λ u rest. then_option (expect opening_brace rest) (λ behind. then_read (read_arms p inner label u n behind) (λ arms end. Some (match_on u arms, end))))

abbrev pub given_words : List Word
given_words = closing ∷ closing ∷ semicolon ∷ if_word ∷ returns_word ∷ dot ∷ len_word ∷ opening ∷ closing ∷ at_least ∷ most_word ∷ opening_brace ∷ return_word ∷ semicolon ∷ closing_brace ∷ []

abbrev pub read_given : List Word → List Token → TokenReading Statement
read_given end tokens = then_read (read_use tokens) (λ u rest. done (give nowhere u) (expect_all end rest))

abbrev pub read_statement : Notation → ℕ → Inner → Option ℕ → List Token → TokenReading Statement
read_statement p n inner label (word let_word ∷ tokens) = read_let p n inner label tokens
read_statement p n inner label (word if_word ∷ tokens) = read_if p inner label tokens
read_statement p n inner label (word match_word ∷ tokens) = read_match p n inner label tokens
read_statement p n inner label (word return_word ∷ tokens) = read_given (semicolon ∷ []) tokens
read_statement p n inner label (word returns_word ∷ tokens) = then_option (expect_all (dot ∷ extend_word ∷ opening ∷ some_word ∷ opening ∷ []) tokens) (read_given given_words)
read_statement p n inner label (word unreachable_word ∷ tokens) = done no_way (expect_all (opening ∷ closing ∷ semicolon ∷ []) tokens)
read_statement p n inner label (label_name k ∷ tokens) = then_option (expect colon tokens) (λ rest. then_read (read_body inner (Some k) rest) (λ body end. Some (labelled body, end)))
read_statement p n inner label (word opening_brace ∷ tokens) = then_read (read_body inner None (word opening_brace ∷ tokens)) (λ body end. Some (labelled body, end))
read_statement p n inner label _ = None

-- as many statements as there are, of which none is deeper than the first number says; and what follows
abbrev pub read_block : Notation → ℕ → Inner
read_block p zero label tokens = None
read_block p (suc n) label tokens =
    where_read (read_statement p n (read_block p n) label tokens) (λ s rest. then_read (read_block p n label rest) (λ later end. Some (statement s later, end))) (λ end. Some (no_statement, end)) tokens
