-- For each row of the grammar a text, and the definition that it spells.
use Rattle.std.specs.Prelude.{◌≡◌, ℕ, List, [], ◌∷◌, ◌++◌, true, false, None, Some, codes, Ok, pos, negsuc}
use Rattle.model.specs.lists.Syntax.{Position, Name, Definition, and_pattern, bind_pattern, bool_expr, bool_pattern, converter_definition, declaration, enum_value, expr_and, extern_const, extern_constructor, extern_definition, extern_extractor, extractor_definition, int_expr, int_pattern, let_and, let_expr, macro_arg, no_expr, no_let, no_pattern, other_definition, pattern_and, prim_expr, prim_pattern, primitive_value, rule_definition, struct_fields, struct_value, term_expr, term_pattern, tuple_fields, type_definition, unit_fields, var_expr, var_pattern, wildcard_pattern}
use Rattle.text_reader.specs.Definitions.{reading}

abbrev pub at : ℕ → Position
at offset = record { file = 0; offset = offset }

abbrev pub named : List ℕ → ℕ → Name
named text offset = record { text = text; at = at offset }

-- a text gives this definition, and no other
abbrev pub IsTextOfDefinition : List ℕ → Definition → Type 0
IsTextOfDefinition text d = reading 0 text ≡ Ok (d ∷ [])

-- a byte order mark, white space, a comment to the end of its line, and one in another
abbrev pub SkippedAreRead : Type 0
SkippedAreRead =
    IsTextOfDefinition (239 ∷ 187 ∷ 191 ∷ codes " ; a line" ++ 10 ∷ codes "(;(;;);)(decl f () u8)")
    (declaration (record { term = named (codes "f") 27; arg_tys = []; ret_ty = named (codes "u8") 32; pure = false; multi = false; partial = false; rec = false; at = at 21 }))

-- a sign, a base, `_` anywhere among digits; above 2^127 - 1 the number with the same 128 bits
abbrev pub IntegersAreRead : Type 0
IntegersAreRead =
    IsTextOfDefinition (codes "(rule (f -0X_1f 0o17 0b101 340282366920938463463374607431768211455) 1_000_)")
    (rule_definition (record { pattern = term_pattern (named (codes "f") 7) (pattern_and (int_pattern (negsuc 30) (at 9)) (pattern_and (int_pattern (pos 15) (at 16)) (pattern_and (int_pattern (pos 5) (at 21)) (pattern_and (int_pattern (negsuc 0) (at 27)) no_pattern)))) (at 6); iflets = []; expr = int_expr (pos 1000) (at 68); at = at 0; prio = None; name = None }))

-- a name may have `-`, digits, `$` and marks behind its beginning
abbrev pub NamesAreRead : Type 0
NamesAreRead =
    IsTextOfDefinition (codes "(decl x-1.y$ () #t'!)")
    (declaration (record { term = named (codes "x-1.y$") 6; arg_tys = []; ret_ty = named (codes "#t'!") 16; pure = false; multi = false; partial = false; rec = false; at = at 0 }))

-- the sign isn't part of the name, and the name may begin as a number
abbrev pub ConstantsAreRead : Type 0
ConstantsAreRead =
    IsTextOfDefinition (codes "(extern const $-1 i8)")
    (extern_definition (extern_const (named (codes "-1") 15) (named (codes "i8") 18) (at 0)))

abbrev pub PrimitivesAreRead : Type 0
PrimitivesAreRead =
    IsTextOfDefinition (codes "(type Reg extern (primitive Reg))")
    (type_definition (record { name = named (codes "Reg") 6; is_extern = true; is_nodebug = false; value = primitive_value (named (codes "Reg") 28) (at 17); at = at 0 }))

abbrev pub EnumerationsAreRead : Type 0
EnumerationsAreRead =
    IsTextOfDefinition (codes "(type Op extern nodebug (enum Add (Shl (by u8))))")
    (type_definition (record { name = named (codes "Op") 6; is_extern = true; is_nodebug = true; value = enum_value ((record { name = named (codes "Add") 30; fields = unit_fields; at = at 30 }) ∷ (record { name = named (codes "Shl") 35; fields = struct_fields ((record { name = named (codes "by") 40; ty = named (codes "u8") 43; at = at 39 }) ∷ []); at = at 34 }) ∷ []) (at 24); at = at 0 }))

abbrev pub StructuresAreRead : Type 0
StructuresAreRead =
    IsTextOfDefinition (codes "(type Pair nodebug (struct (a Reg) (b u8)))")
    (type_definition (record { name = named (codes "Pair") 6; is_extern = false; is_nodebug = true; value = struct_value (struct_fields ((record { name = named (codes "a") 28; ty = named (codes "Reg") 30; at = at 27 }) ∷ (record { name = named (codes "b") 36; ty = named (codes "u8") 38; at = at 35 }) ∷ [])) (at 19); at = at 0 }))

abbrev pub DeclarationsAreRead : Type 0
DeclarationsAreRead =
    IsTextOfDefinition (codes "(decl pure partial imm12 (Value) Imm12)")
    (declaration (record { term = named (codes "imm12") 19; arg_tys = (named (codes "Value") 26) ∷ []; ret_ty = named (codes "Imm12") 33; pure = true; multi = false; partial = true; rec = false; at = at 0 }))

abbrev pub RulesAreRead : Type 0
RulesAreRead =
    IsTextOfDefinition (codes "(rule small 1 (lower (iadd x y)) (if-let k (imm12 y)) (add_imm x k))")
    (rule_definition (record { pattern = term_pattern (named (codes "lower") 15) (pattern_and (term_pattern (named (codes "iadd") 22) (pattern_and (var_pattern (named (codes "x") 27) (at 27)) (pattern_and (var_pattern (named (codes "y") 29) (at 29)) no_pattern)) (at 21)) no_pattern) (at 14); iflets = (record { pattern = var_pattern (named (codes "k") 41) (at 41); expr = term_expr (named (codes "imm12") 44) (expr_and (var_expr (named (codes "y") 50) (at 50)) no_expr) (at 43); at = at 33 }) ∷ []; expr = term_expr (named (codes "add_imm") 55) (expr_and (var_expr (named (codes "x") 63) (at 63)) (expr_and (var_expr (named (codes "k") 65) (at 65)) no_expr)) (at 54); at = at 0; prio = Some (pos 1); name = Some (named (codes "small") 6) }))

abbrev pub ExtractorsAreRead : Type 0
ExtractorsAreRead =
    IsTextOfDefinition (codes "(extractor (shifted x) (shl x 2))")
    (extractor_definition (record { term = named (codes "shifted") 12; args = (named (codes "x") 20) ∷ []; template = term_pattern (named (codes "shl") 24) (pattern_and (var_pattern (named (codes "x") 28) (at 28)) (pattern_and (int_pattern (pos 2) (at 30)) no_pattern)) (at 23); at = at 0 }))

abbrev pub ExternalConstructorsAreRead : Type 0
ExternalConstructorsAreRead =
    IsTextOfDefinition (codes "(extern constructor add add_fn)")
    (extern_definition (extern_constructor (named (codes "add") 20) (named (codes "add_fn") 24) (at 0)))

abbrev pub ExternalExtractorsAreRead : Type 0
ExternalExtractorsAreRead =
    IsTextOfDefinition (codes "(extern extractor infallible both both_fn)")
    (extern_definition (extern_extractor (named (codes "both") 29) (named (codes "both_fn") 34) (at 0) true))

abbrev pub ExternalConstantsAreRead : Type 0
ExternalConstantsAreRead =
    IsTextOfDefinition (codes "(extern const $ZERO Reg)")
    (extern_definition (extern_const (named (codes "ZERO") 15) (named (codes "Reg") 20) (at 0)))

-- inner type, outer type, term
abbrev pub ConversionsAreRead : Type 0
ConversionsAreRead =
    IsTextOfDefinition (codes "(convert Value Reg put_in)")
    (converter_definition (record { term = named (codes "put_in") 19; inner_ty = named (codes "Value") 9; outer_ty = named (codes "Reg") 15; at = at 0 }))

-- what another tool reads, with a word that begins with `-`
abbrev pub OthersAreRead : Type 0
OthersAreRead =
    IsTextOfDefinition (codes "(spec (f x) -> (bvadd x 1))")
    (other_definition)

-- a name, and a name with fields
abbrev pub VariantTextsAreRead : Type 0
VariantTextsAreRead =
    IsTextOfDefinition (codes "(type E (enum A (B u8)))")
    (type_definition (record { name = named (codes "E") 6; is_extern = false; is_nodebug = false; value = enum_value ((record { name = named (codes "A") 14; fields = unit_fields; at = at 14 }) ∷ (record { name = named (codes "B") 17; fields = tuple_fields ((record { index = 0; ty = named (codes "u8") 19; at = at 19 }) ∷ []); at = at 16 }) ∷ []) (at 8); at = at 0 }))

-- with names, without, none
abbrev pub FieldTextsAreRead : Type 0
FieldTextsAreRead =
    IsTextOfDefinition (codes "(type E (enum (P (a u8) (b u16)) (Q u8 u16) (R)))")
    (type_definition (record { name = named (codes "E") 6; is_extern = false; is_nodebug = false; value = enum_value ((record { name = named (codes "P") 15; fields = struct_fields ((record { name = named (codes "a") 18; ty = named (codes "u8") 20; at = at 17 }) ∷ (record { name = named (codes "b") 25; ty = named (codes "u16") 27; at = at 24 }) ∷ []); at = at 14 }) ∷ (record { name = named (codes "Q") 34; fields = tuple_fields ((record { index = 0; ty = named (codes "u8") 36; at = at 36 }) ∷ (record { index = 1; ty = named (codes "u16") 39; at = at 39 }) ∷ []); at = at 33 }) ∷ (record { name = named (codes "R") 45; fields = unit_fields; at = at 44 }) ∷ []) (at 8); at = at 0 }))

abbrev pub PatternsAreRead : Type 0
PatternsAreRead =
    IsTextOfDefinition (codes "(rule (f 5 true false $ZERO _ x y @ z (and x 7) (g) (macro-arg 1)) x)")
    (rule_definition (record { pattern = term_pattern (named (codes "f") 7) (pattern_and (int_pattern (pos 5) (at 9)) (pattern_and (bool_pattern true (at 11)) (pattern_and (bool_pattern false (at 16)) (pattern_and (prim_pattern (named (codes "ZERO") 23) (at 22)) (pattern_and (wildcard_pattern (at 28)) (pattern_and (var_pattern (named (codes "x") 30) (at 30)) (pattern_and (bind_pattern (named (codes "y") 32) (var_pattern (named (codes "z") 36) (at 36)) (at 32)) (pattern_and (and_pattern (pattern_and (var_pattern (named (codes "x") 43) (at 43)) (pattern_and (int_pattern (pos 7) (at 45)) no_pattern)) (at 38)) (pattern_and (term_pattern (named (codes "g") 49) no_pattern (at 48)) (pattern_and (macro_arg 1 (at 52)) no_pattern)))))))))) (at 6); iflets = []; expr = var_expr (named (codes "x") 67) (at 67); at = at 0; prio = None; name = None }))

-- the second as with the pattern `_`
abbrev pub StatementsAreRead : Type 0
StatementsAreRead =
    IsTextOfDefinition (codes "(rule (f x) (if-let 2 (g x)) (if (h x)) x)")
    (rule_definition (record { pattern = term_pattern (named (codes "f") 7) (pattern_and (var_pattern (named (codes "x") 9) (at 9)) no_pattern) (at 6); iflets = (record { pattern = int_pattern (pos 2) (at 20); expr = term_expr (named (codes "g") 23) (expr_and (var_expr (named (codes "x") 25) (at 25)) no_expr) (at 22); at = at 12 }) ∷ (record { pattern = wildcard_pattern (at 29); expr = term_expr (named (codes "h") 34) (expr_and (var_expr (named (codes "x") 36) (at 36)) no_expr) (at 33); at = at 29 }) ∷ []; expr = var_expr (named (codes "x") 40) (at 40); at = at 0; prio = None; name = None }))

abbrev pub ExpressionsAreRead : Type 0
ExpressionsAreRead =
    IsTextOfDefinition (codes "(rule (f x) (let ((a u8 -1) (b u8 x)) (g true false $ZERO a (h))))")
    (rule_definition (record { pattern = term_pattern (named (codes "f") 7) (pattern_and (var_pattern (named (codes "x") 9) (at 9)) no_pattern) (at 6); iflets = []; expr = let_expr (let_and (named (codes "a") 19) (named (codes "u8") 21) (int_expr (negsuc 0) (at 24)) (at 18) (let_and (named (codes "b") 29) (named (codes "u8") 31) (var_expr (named (codes "x") 34) (at 34)) (at 28) no_let)) (term_expr (named (codes "g") 39) (expr_and (bool_expr true (at 41)) (expr_and (bool_expr false (at 46)) (expr_and (prim_expr (named (codes "ZERO") 53) (at 52)) (expr_and (var_expr (named (codes "a") 58) (at 58)) (expr_and (term_expr (named (codes "h") 61) no_expr (at 60)) no_expr))))) (at 38)) (at 12); at = at 0; prio = None; name = None }))
