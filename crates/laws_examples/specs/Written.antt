-- Forms of definitions, written short: every place inside a definition is the same offset of the first file.
use Rattle.std.specs.Prelude.{ℕ, zero, suc, ℤ, pos, false, List, [], ◌∷◌, Some, None, map, codes}
use Rattle.model.specs.lists.Syntax.{Position, Name, PatternTree, var_pattern, bind_pattern, int_pattern, term_pattern, wildcard_pattern, and_pattern, PatternTrees, no_pattern, pattern_and, ExprTree, term_expr, var_expr, int_expr, let_expr, ExprTrees, no_expr, expr_and, no_let, let_and, RuleTree, FieldTree, struct_fields, VariantTree, TypeTree, primitive_value, enum_value, DeclTree, ExtractorTree, Definition, type_definition, declaration, extractor_definition, converter_definition, rule_definition, extern_definition, extern_constructor, extern_extractor, extern_const}

-- an offset in the first file
abbrev pub at : ℕ → Position
at n = record { file = 0; offset = n }

-- a name at an offset
abbrev pub name : ℕ → List ℕ → Name
name n text = record { text = text; at = at n }

-- a field and its type
abbrev pub field : ℕ → List ℕ → List ℕ → FieldTree
field n f ty = record { name = name n f; ty = name n ty; at = at n }

-- a variant with fields
abbrev pub variant : ℕ → List ℕ → List FieldTree → VariantTree
variant n v fields = record { name = name n v; fields = struct_fields fields; at = at n }

-- a primitive type, with the name inside it
abbrev pub primitive : ℕ → List ℕ → List ℕ → TypeTree
primitive n t inner = record { name = name n t; is_extern = false; is_nodebug = false; value = primitive_value (name n inner) (at n); at = at n }

-- an enum
abbrev pub enum : ℕ → List ℕ → List VariantTree → TypeTree
enum n t variants = record { name = name n t; is_extern = false; is_nodebug = false; value = enum_value variants (at n); at = at n }

-- a constant
abbrev pub constant : ℕ → List ℕ → List ℕ → Definition
constant n c ty = extern_definition (extern_const (name n c) (name n ty) (at n))

-- a declaration without marks
abbrev pub decl : ℕ → List ℕ → List (List ℕ) → List ℕ → DeclTree
decl n t args ret = record { term = name n t; arg_tys = map (name n) args; ret_ty = name n ret; pure = false; multi = false; partial = false; rec = false; at = at n }

-- the definition that it makes
abbrev pub declared : ℕ → List ℕ → List (List ℕ) → List ℕ → Definition
declared n t args ret = declaration (decl n t args ret)

-- patterns as arguments
abbrev pub patterns : List PatternTree → PatternTrees
patterns [] = no_pattern
patterns (p ∷ ps) = pattern_and p (patterns ps)

-- a term on patterns
abbrev pub term : ℕ → List ℕ → List PatternTree → PatternTree
term n t args = term_pattern (name n t) (patterns args) (at n)

-- an internal extractor
abbrev pub decl_by_template : ℕ → List ℕ → List (List ℕ) → PatternTree → ExtractorTree
decl_by_template n t args p = record { term = name n t; args = map (name n) args; template = p; at = at n }

-- the definition that it makes
abbrev pub extractor : ℕ → List ℕ → List (List ℕ) → PatternTree → Definition
extractor n t args p = extractor_definition (decl_by_template n t args p)

-- a conversion from an inner type to an outer one
abbrev pub conversion : ℕ → List ℕ → List ℕ → List ℕ → Definition
conversion n inner outer t = converter_definition (record { term = name n t; inner_ty = name n inner; outer_ty = name n outer; at = at n })

-- an external constructor
abbrev pub constructor_by : ℕ → List ℕ → List ℕ → Definition
constructor_by n t function = extern_definition (extern_constructor (name n t) (name n function) (at n))

-- an external extractor that may fail
abbrev pub extractor_by : ℕ → List ℕ → List ℕ → Definition
extractor_by n t function = extern_definition (extern_extractor (name n t) (name n function) (at n) false)

-- a variable in a pattern
abbrev pub var : ℕ → List ℕ → PatternTree
var n x = var_pattern (name n x) (at n)

-- a name over a pattern
abbrev pub bind : ℕ → List ℕ → PatternTree → PatternTree
bind n x p = bind_pattern (name n x) p (at n)

-- an integer in a pattern
abbrev pub int : ℕ → ℤ → PatternTree
int n z = int_pattern z (at n)

-- a wildcard
abbrev pub any : ℕ → PatternTree
any n = wildcard_pattern (at n)

-- patterns that all must match
abbrev pub both : ℕ → List PatternTree → PatternTree
both n ps = and_pattern (patterns ps) (at n)

-- a term f on patterns: most samples have one term with rules, of that name
abbrev pub of_f : ℕ → List PatternTree → PatternTree
of_f n ps = term n (codes "f") ps

-- expressions as arguments
abbrev pub exprs : List ExprTree → ExprTrees
exprs [] = no_expr
exprs (x ∷ xs) = expr_and x (exprs xs)

-- a variable in an expression
abbrev pub variable : ℕ → List ℕ → ExprTree
variable n x = var_expr (name n x) (at n)

-- an integer in an expression
abbrev pub number : ℕ → ℤ → ExprTree
number n z = int_expr z (at n)

-- a term on expressions
abbrev pub call : ℕ → List ℕ → List ExprTree → ExprTree
call n t xs = term_expr (name n t) (exprs xs) (at n)

-- a let of one name
abbrev pub let_one : ℕ → List ℕ → List ℕ → ExprTree → ExprTree → ExprTree
let_one n x ty value body = let_expr (let_and (name n x) (name n ty) value (at n) no_let) body (at n)

-- a rule: without a priority, with one, and with an if-let of a pattern and its value
abbrev pub rule_tree : ℕ → PatternTree → ExprTree → RuleTree
rule_tree n p x = record { pattern = p; iflets = []; expr = x; at = at n; prio = None; name = None }

abbrev pub rule_to : ℕ → PatternTree → ExprTree → Definition
rule_to n p x = rule_definition (rule_tree n p x)

-- one that answers 1
abbrev pub rule_to_one : ℕ → PatternTree → Definition
rule_to_one n p = rule_to n p (number n (pos 1))

abbrev pub rule_first : ℕ → ℤ → PatternTree → ExprTree → Definition
rule_first n z p x = rule_definition (record (rule_tree n p x) { prio = Some z })

abbrev pub rule_if : ℕ → PatternTree → PatternTree → ExprTree → ExprTree → Definition
rule_if n p q value x = rule_definition (record (rule_tree n p x) { iflets = record { pattern = q; expr = value; at = at n } ∷ [] })

-- the declaration of a term from u8 to u8
abbrev pub numbers : ℕ → List ℕ → DeclTree
numbers n t = decl n t (codes "u8" ∷ []) (codes "u8")

-- as many arguments of type u8
abbrev pub bytes : ℕ → List (List ℕ)
bytes zero = []
bytes (suc k) = codes "u8" ∷ bytes k

-- the term f of as many such arguments, and of that type
abbrev pub f_of_bytes : ℕ → ℕ → Definition
f_of_bytes n k = declared n (codes "f") (bytes k) (codes "u8")

-- an enum of one variant with fields
abbrev pub enum_of_one : ℕ → List ℕ → List ℕ → List FieldTree → Definition
enum_of_one n t v fields = type_definition (enum n t (variant n v fields ∷ []))
