-- Short forms of tables and of typed rules.
use Rattle.std.specs.Prelude.{ℕ, suc, ℤ, Bool, false, List, [], ◌∷◌, ◌++◌, Option, Some, None}
use Rattle.model.specs.lists.Tables.{FieldEntries, VariantEntry, TypeEntry, enum_type, Flags, internal_constructor, external_constructor, external_extractor, TermKindEntry, declared_term, TermEntry}
use Rattle.model.specs.lists.TypeTable.{builtin_names, builtin_from}
use Rattle.model.specs.lists.Elaborated.{TypedRules}
use Rattle.model.specs.rules.Typed.{TypedPattern, match_bind, match_any, TypedPatterns, no_typed_pattern, typed_pattern_and, TypedExpr, make_let, TypedExprs, no_typed_expr, typed_expr_and, no_typed_let, typed_let_and, TypedVar, TypedIfLet, TypedRule}
use Rattle.laws_examples.specs.Written.{at}

-- the type of 8 bits without sign, and the first type that a definition makes
abbrev pub u8 : ℕ
u8 = 1

abbrev pub own : ℕ
own = 13

-- the built-in types
abbrev pub builtins : List TypeEntry
builtins = builtin_from 0 builtin_names

-- the built-in names, then these
abbrev pub names_with : List (List ℕ) → List (List ℕ)
names_with more = builtin_names ++ more

-- a variant by the numbers of its name and its full name, and its place, in definition d
abbrev pub variant_entry : (number full id : ℕ) → FieldEntries → ℕ → VariantEntry
variant_entry number full id fields d = record { name = number; full_name = full; id = id; fields = fields; at = at d }

-- an enum of definition d
abbrev pub enum_entry : (number id : ℕ) → List VariantEntry → ℕ → TypeEntry
enum_entry number id variants d = enum_type number id false false variants (at d)

-- flags of terms, none of which is recursive
abbrev pub flags : (pure multi partial : Bool) → Flags
flags pure multi partial = record { pure = pure; multi = multi; partial = partial; rec = false }

abbrev pub no_flags : Flags
no_flags = flags false false false

-- a term of definition d: its id, the number of its name, its arguments, its result, and what it is
abbrev pub entry : (id d number : ℕ) → List ℕ → ℕ → TermKindEntry → TermEntry
entry id d number args ret kind = record { id = id; at = at d; name = number; arg_tys = args; ret_ty = ret; kind = kind }

-- one from u8 to u8
abbrev pub number_term : (id d number : ℕ) → TermKindEntry → TermEntry
number_term id d number kind = entry id d number (u8 ∷ []) u8 kind

-- made by rules
abbrev pub by_rules : Flags → TermKindEntry
by_rules marks = declared_term marks (Some internal_constructor) None

-- made by a function of this name
abbrev pub by_constructor : Flags → ℕ → TermKindEntry
by_constructor marks function = declared_term marks (Some (external_constructor function)) None

-- taken apart by a function of this name, as definition d says
abbrev pub by_extractor : Flags → ℕ → ℕ → TermKindEntry
by_extractor marks function d = declared_term marks None (Some (external_extractor function false (at d)))

-- typed patterns and expressions as arguments
abbrev pub q_list : List TypedPattern → TypedPatterns
q_list [] = no_typed_pattern
q_list (q ∷ qs) = typed_pattern_and q (q_list qs)

abbrev pub e_list : List TypedExpr → TypedExprs
e_list [] = no_typed_expr
e_list (x ∷ xs) = typed_expr_and x (e_list xs)

-- a variable that is bound to anything
abbrev pub bind_any : ℕ → ℕ → TypedPattern
bind_any ty x = match_bind ty x (match_any ty)

-- a let of one variable
abbrev pub make_let_one : ℕ → ℕ → ℕ → TypedExpr → TypedExpr → TypedExpr
make_let_one ty x of value body = make_let ty (typed_let_and x of value no_typed_let) body

-- an if-let
abbrev pub typed_iflet : TypedPattern → TypedExpr → TypedIfLet
typed_iflet q x = record { lhs = q; rhs = x }

-- a variable by id, number of the name, and type
abbrev pub typed_var : ℕ → ℕ → ℕ → TypedVar
typed_var id number ty = record { id = id; name = number; ty = ty }

-- variables of type u8 of these names, in order
abbrev pub variables : ℕ → List ℕ → List TypedVar
variables i [] = []
variables i (number ∷ numbers) = typed_var i number u8 ∷ variables (suc i) numbers

-- a rule of definition d, without if-lets
abbrev pub typed : (id d root : ℕ) → ℤ → Option ℕ → List TypedVar → List TypedPattern → TypedExpr → TypedRule
typed id d root prio name vars args rhs = record { id = id; root_term = root; args = args; iflets = []; rhs = rhs; vars = vars; prio = prio; at = at d; name = name }

-- the rules of a list, and the names that it has beside the built-in ones
abbrev pub rules_and_names : List TypedRule → List (List ℕ) → TypedRules
rules_and_names rules more = record { rules = rules; names = names_with more }
