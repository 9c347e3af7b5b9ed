-- Forms for a verifier, and their parts.
use Rattle.std.specs.Prelude.{ℕ, ◌*◌, ◌^◌, ℤ, pos, negsuc, Bool, true, false, ◌&&◌, ◌||◌, nat_lt, nat_le, List, [], ◌∷◌, codes, drop, length, slice_index, ◌==◌, Option, Some, None, Result, Ok, if◌then◌else◌}
use Rattle.std.specs.List.{list_all}
use Rattle.model.specs.lists.Syntax.{Position, Name}
use Rattle.text_reader.specs.declared.errors.Mistake.{Mistake}
use Rattle.text_reader.specs.declared.errors.Mistake.TheVariants as M
use Rattle.text_reader.specs.Lexemes.{Wrong, ◌>>=◌}
use Rattle.std.specs.Char.{digit_value}
use Rattle.text_reader.specs.Numbers.{digits_after}
use Rattle.text_reader.specs.FormTrees.{FormTree, a_word, a_number, a_constant, a_binding, a_list, FormTrees, no_form, form_and}
use Rattle.text_reader.specs.Grammar.{Listed, listed, no, reads, place_of, name_of, names_of, each_of, list_of, head_of, headed_of, next_of, next_name_of, next_if_of, ended}
use Rattle.text_reader.specs.SpecTrees.{SpecExprTree, spec_int, spec_bits, spec_bool, spec_unit, spec_var, spec_op, spec_cases, spec_let, spec_with, spec_as, spec_pair, SpecExprTrees, no_spec_expr, spec_expr_and, ModelTypeTree, int_model, bool_model, unit_model, bits_model, named_model, ModifiesTree, SpecTree, VariantValueTree, ModelValueTree, type_value, enum_value, const_value, ModelTree, SignatureTree, SignaturesTree, InstantiationTree, AttrKindTree, tag, chain, priority, AttrTree, StateTree, MacroTree}

-- ---- lists

abbrev pub is_empty : FormTrees → Bool
is_empty no_form = true
is_empty (form_and f fs) = false

-- the list that begins with this word, behind it
abbrev pub section_of : List ℕ → Mistake → FormTree → Result Listed Wrong
section_of word m f = headed_of m f >>= (λ h. if reads h.0 word then Ok h.1 else no m h.1.at)

-- the last part of a list
abbrev pub last_of : Mistake → Listed → Result FormTree Wrong
last_of m l = next_of m l >>= (λ f. ended f.1.parts >>= (λ _. Ok f.0))

-- ( NAME NAME .. )
abbrev pub use_of : FormTree → Result (Name × List Name) Wrong
use_of f = list_of M.Names f >>= (λ l. next_name_of l >>= (λ n. names_of n.1.parts >>= (λ args. Ok (n.0, args))))

-- ---- types of models

-- a width, in the list that begins there
abbrev pub width_of : ℤ → (width list : Position) → Result ModelTypeTree Wrong
width_of (pos n) at list = if nat_lt n (2 ^ 64) then Ok (bits_model (Some n) list) else no M.Width at
width_of (negsuc n) at list = no M.Width at

abbrev pub bits_model_in : FormTree → Position → Result ModelTypeTree Wrong
bits_model_in (a_word n) at = no M.Width n.at
bits_model_in (a_number z p) at = width_of z p at
bits_model_in (a_constant n p) at = no M.Width p
bits_model_in (a_binding n f) at = no M.Width n.at
bits_model_in (a_list fs p e) at = no M.Width p

-- ( bv ) or ( bv INT ), behind its head
abbrev pub bits_model_of : Listed → Result ModelTypeTree Wrong
bits_model_of l = if is_empty l.parts then Ok (bits_model None l.at) else (last_of M.Width l >>= (λ f. bits_model_in f l.at))

abbrev pub named_model_of : Listed → Result ModelTypeTree Wrong
named_model_of l = next_name_of l >>= (λ n. ended n.1.parts >>= (λ _. Ok (named_model n.0 l.at)))

abbrev pub word_model_of : Name → Result ModelTypeTree Wrong
word_model_of n =
    if reads n (codes "Int") then Ok (int_model n.at)
    else if reads n (codes "Bool") then Ok (bool_model n.at)
    else if reads n (codes "Unit") then Ok (unit_model n.at)
    else no M.ModelType n.at

abbrev pub list_model_of : FormTree → Result ModelTypeTree Wrong
list_model_of f = headed_of M.ModelType f >>= (λ h.
    if reads h.0 (codes "bv") then bits_model_of h.1
    else if reads h.0 (codes "named") then named_model_of h.1
    else no M.ModelType h.1.at)

abbrev pub model_type_of : FormTree → Result ModelTypeTree Wrong
model_type_of (a_word n) = word_model_of n
model_type_of (a_number z p) = list_model_of (a_number z p)
model_type_of (a_constant n p) = list_model_of (a_constant n p)
model_type_of (a_binding n f) = list_model_of (a_binding n f)
model_type_of (a_list fs p e) = list_model_of (a_list fs p e)

abbrev pub model_types_of : FormTrees → Result (List ModelTypeTree) Wrong
model_types_of fs = each_of model_type_of fs

-- a type that is a list's last part
abbrev pub last_model_of : Listed → Result ModelTypeTree Wrong
last_model_of l = last_of M.ModelType l >>= model_type_of

-- ---- expressions

-- whether all of these are digits of a base
abbrev pub are_digits : (radix : ℕ) → List ℕ → Bool
are_digits radix digits = list_all (λ d. nat_lt (digit_value d) radix) digits

-- whether these are digits of a base, at least one, and 128 bits at most with so many bits each
abbrev pub are_bits : (radix each : ℕ) → List ℕ → Bool
are_bits radix each digits = nat_lt 0 (length digits) && nat_le (length digits * each) 128 && are_digits radix digits

-- bits by digits of a base, so many bits each
abbrev pub bits_of : (radix each : ℕ) → List ℕ → Position → Result SpecExprTree Wrong
bits_of radix each digits at =
    if are_bits radix each digits then Ok (spec_bits (digits_after radix 0 digits) (length digits * each) at) else no M.Bits at

-- a truth value, or a name
abbrev pub plain_word_of : Name → SpecExprTree
plain_word_of n =
    if reads n (codes "true") then spec_bool true n.at
    else if reads n (codes "false") then spec_bool false n.at
    else spec_var n n.at

-- whether a word begins with `#` and this character
abbrev pub has_mark : ℕ → List ℕ → Bool
has_mark mark w = slice_index w 0 == 35 && (slice_index w 1 == mark)

abbrev pub word_spec_of : Name → Result SpecExprTree Wrong
word_spec_of n =
    if has_mark 120 n.text then bits_of 16 4 (drop 2 n.text) n.at
    else if has_mark 98 n.text then bits_of 2 1 (drop 2 n.text) n.at
    else Ok (plain_word_of n)

-- whether what follows the first argument are cases
abbrev pub has_cases : Name → Bool
has_cases n = reads n (codes "switch") || reads n (codes "match")

-- whether an expression follows what it is under, or a type the expression
abbrev pub has_three : Name → Bool
has_three n = reads n (codes "let") || reads n (codes "with") || reads n (codes "as")

-- ( NAME .. )
abbrev pub name_list_of : FormTree → Result (List Name) Wrong
name_list_of f = list_of M.Names f >>= (λ l. names_of l.parts)

-- definitions and what is under them
abbrev pub let_of : Result SpecExprTrees Wrong → Result SpecExprTree Wrong → Position → Result SpecExprTree Wrong
let_of defs body p = defs >>= (λ ds. body >>= (λ x. Ok (spec_let ds x p)))

-- names and what is under them
abbrev pub with_of : Result (List Name) Wrong → Result SpecExprTree Wrong → Position → Result SpecExprTree Wrong
with_of names body p = names >>= (λ ns. body >>= (λ x. Ok (spec_with ns x p)))

-- a value and its type
abbrev pub as_of : Result SpecExprTree Wrong → Result ModelTypeTree Wrong → Position → Result SpecExprTree Wrong
as_of value type p = value >>= (λ x. type >>= (λ t. Ok (spec_as x t p)))

-- the two parts behind such a word: definitions, names or a value, and an expression or a type
abbrev pub two_of : Name → Result SpecExprTrees Wrong → Result (List Name) Wrong → (value body : Result SpecExprTree Wrong) → Result ModelTypeTree Wrong → Position → Result SpecExprTree Wrong
two_of op defs names value body type p =
    if reads op (codes "let") then let_of defs body p
    else if reads op (codes "with") then with_of names body p
    else as_of value type p

abbrev mutual
  -- ( ), ( switch S ( S S ) .. ), ( match S ( S S ) .. ), ( let ( ( S S ) .. ) S ), ( with ( NAME .. ) S ), ( as S M ), ( OP S .. ), or no list
  pub spec_expr_of : FormTree → Result SpecExprTree Wrong
  spec_expr_of (a_word n) = word_spec_of n
  spec_expr_of (a_number z p) = Ok (spec_int z p)
  spec_expr_of (a_constant n p) = no M.Expression p
  spec_expr_of (a_binding n f) = no M.Expression n.at
  spec_expr_of (a_list fs p e) =
      if is_empty fs then Ok (spec_unit p)
      else (head_of fs e >>= (λ op. if has_cases op then switch_of op fs p e
      else if has_three op then three_of op fs p e
      else (arguments_of fs >>= (λ args. Ok (spec_op op args p)))))

  -- those of the parts behind the first
  pub arguments_of : FormTrees → Result SpecExprTrees Wrong
  arguments_of no_form = Ok no_spec_expr
  arguments_of (form_and f fs) = spec_exprs_of fs

  pub spec_exprs_of : FormTrees → Result SpecExprTrees Wrong
  spec_exprs_of no_form = Ok no_spec_expr
  spec_exprs_of (form_and f fs) = spec_expr_of f >>= (λ x. spec_exprs_of fs >>= (λ xs. Ok (spec_expr_and x xs)))

  -- a value and cases, behind the first part
  pub switch_of : Name → FormTrees → Position → Position → Result SpecExprTree Wrong
  switch_of op no_form p e = no M.Expression e
  switch_of op (form_and h no_form) p e = no M.Expression e
  switch_of op (form_and h (form_and f fs)) p e =
      spec_expr_of f >>= (λ x. pairs_of fs >>= (λ xs. Ok (spec_cases op x xs p)))

  pub three_of : Name → FormTrees → Position → Position → Result SpecExprTree Wrong
  three_of op no_form p e = no M.Expression e
  three_of op (form_and h no_form) p e = no M.Expression e
  three_of op (form_and h (form_and f no_form)) p e = no M.Expression e
  three_of op (form_and h (form_and f (form_and g no_form))) p e =
      two_of op (defs_of f) (name_list_of f) (spec_expr_of f) (spec_expr_of g) (model_type_of g) p
  three_of op (form_and h (form_and f (form_and g (form_and more fs)))) p e = no M.End (place_of more)

  -- ( ( S S ) .. )
  pub defs_of : FormTree → Result SpecExprTrees Wrong
  defs_of (a_word n) = no M.Case n.at
  defs_of (a_number z p) = no M.Case p
  defs_of (a_constant n p) = no M.Case p
  defs_of (a_binding n f) = no M.Case n.at
  defs_of (a_list fs p e) = pairs_of fs

  pub pairs_of : FormTrees → Result SpecExprTrees Wrong
  pairs_of no_form = Ok no_spec_expr
  pairs_of (form_and f fs) = pair_of f >>= (λ x. pairs_of fs >>= (λ xs. Ok (spec_expr_and x xs)))

  -- ( S S )
  pub pair_of : FormTree → Result SpecExprTree Wrong
  pair_of (a_word n) = no M.Case n.at
  pair_of (a_number z p) = no M.Case p
  pair_of (a_constant n p) = no M.Case p
  pair_of (a_binding n f) = no M.Case n.at
  pair_of (a_list fs p e) = pair_in fs p

  pub pair_in : FormTrees → Position → Result SpecExprTree Wrong
  pair_in no_form p = no M.Case p
  pair_in (form_and f no_form) p = no M.Case p
  pair_in (form_and f (form_and g no_form)) p = spec_expr_of f >>= (λ x. spec_expr_of g >>= (λ y. Ok (spec_pair x y p)))
  pair_in (form_and f (form_and g (form_and h fs))) p = no M.Case p

-- an expression that is a list's last part
abbrev pub last_expr_of : Listed → Result SpecExprTree Wrong
last_expr_of l = last_of M.Expression l >>= spec_expr_of

-- ---- signatures

-- ( ( args M .. ) ( ret M ) ( canon M ) )
abbrev pub signature_of : FormTree → Result SignatureTree Wrong
signature_of f = list_of M.Signature f >>= (λ l.
    next_of M.Signature l >>= (λ a. section_of (codes "args") M.Signature a.0 >>= (λ args. model_types_of args.parts >>= (λ types.
    next_of M.Signature a.1 >>= (λ r. section_of (codes "ret") M.Signature r.0 >>= (λ ret. last_model_of ret >>= (λ result.
    last_of M.Signature r.1 >>= (λ c. section_of (codes "canon") M.Signature c >>= (λ canon. last_model_of canon >>= (λ canonical.
    Ok (record { args = types; ret = result; canonical = canonical; at = l.at })))))))))))

abbrev pub signatures_of : FormTrees → Result (List SignatureTree) Wrong
signatures_of fs = each_of signature_of fs

-- ( form NAME SIG .. ), behind its head
abbrev pub form_of : Listed → Result SignaturesTree Wrong
form_of l = next_name_of l >>= (λ n. signatures_of n.1.parts >>= (λ signatures.
    Ok (record { name = n.0; signatures = signatures; at = l.at })))

-- whether a word comes next
abbrev pub begins_with_word : FormTrees → Bool
begins_with_word no_form = false
begins_with_word (form_and (a_word n) fs) = true
begins_with_word (form_and (a_number z p) fs) = false
begins_with_word (form_and (a_constant n p) fs) = false
begins_with_word (form_and (a_binding n f) fs) = false
begins_with_word (form_and (a_list gs p e) fs) = false

-- NAME, the form of these signatures
abbrev pub by_form_of : Name → Listed → Position → Result InstantiationTree Wrong
by_form_of term l at = next_name_of l >>= (λ n. ended n.1.parts >>= (λ _.
    Ok (record { term = term; form = Some n.0; signatures = []; at = at })))

-- ( instantiate TERM NAME ) or ( instantiate TERM SIG .. ), behind its head
abbrev pub instantiation_of : Listed → Result InstantiationTree Wrong
instantiation_of l = next_name_of l >>= (λ n.
    if begins_with_word n.1.parts then by_form_of n.0 n.1 l.at
    else (signatures_of n.1.parts >>= (λ signatures. Ok (record { term = n.0; form = None; signatures = signatures; at = l.at }))))

-- ---- attributes

-- ( tag NAME ), ( veri chain ) or ( veri priority )
abbrev pub veri_of : Position → Name → Result AttrKindTree Wrong
veri_of at n =
    if reads n (codes "chain") then Ok (chain at)
    else if reads n (codes "priority") then Ok (priority at)
    else no M.Attribute n.at

abbrev pub attr_kind_of : FormTree → Result AttrKindTree Wrong
attr_kind_of f = headed_of M.Attribute f >>= (λ h. next_name_of h.1 >>= (λ n. ended n.1.parts >>= (λ _.
    if reads h.0 (codes "tag") then Ok (tag n.0 h.1.at)
    else if reads h.0 (codes "veri") then veri_of h.1.at n.0
    else no M.Attribute h.1.at)))

abbrev pub attr_kinds_of : FormTrees → Result (List AttrKindTree) Wrong
attr_kinds_of fs = each_of attr_kind_of fs

-- ( attr TERM A .. ) or ( attr rule RULE A .. ), behind its head
abbrev pub attr_of : Listed → Result AttrTree Wrong
attr_of l =
    let r = next_if_of (codes "rule") l in
    next_name_of r.1 >>= (λ n. attr_kinds_of n.1.parts >>= (λ kinds.
    Ok (record { is_rule = r.0; name = n.0; kinds = kinds; at = l.at })))

-- ---- states and macros

-- ( state NAME ( type M ) ( default S ) ), behind its head
abbrev pub state_of : Listed → Result StateTree Wrong
state_of l = next_name_of l >>= (λ n.
    next_of M.StatePart n.1 >>= (λ t. section_of (codes "type") M.StatePart t.0 >>= (λ type. last_model_of type >>= (λ ty.
    last_of M.StatePart t.1 >>= (λ d. section_of (codes "default") M.StatePart d >>= (λ default. last_expr_of default >>= (λ x.
    Ok (record { name = n.0; ty = ty; default = x; at = l.at }))))))))

-- ( macro ( NAME NAME .. ) S ), behind its head
abbrev pub macro_of : Bool → Listed → Result MacroTree Wrong
macro_of is_spec l = next_of M.Names l >>= (λ f. use_of f.0 >>= (λ u. last_expr_of f.1 >>= (λ body.
    Ok (record { is_spec = is_spec; name = u.0; params = u.1; body = body; at = l.at }))))

-- ---- models

-- ( NAME S )
abbrev pub valued_of : FormTree → Result VariantValueTree Wrong
valued_of f = list_of M.Variant f >>= (λ l. next_name_of l >>= (λ n. last_expr_of n.1 >>= (λ x.
    Ok (record { name = n.0; value = Some x; at = l.at }))))

-- NAME or ( NAME S )
abbrev pub variant_value_of : FormTree → Result VariantValueTree Wrong
variant_value_of (a_word n) = Ok (record { name = n; value = None; at = n.at })
variant_value_of (a_number z p) = valued_of (a_number z p)
variant_value_of (a_constant n p) = valued_of (a_constant n p)
variant_value_of (a_binding n f) = valued_of (a_binding n f)
variant_value_of (a_list fs p e) = valued_of (a_list fs p e)

abbrev pub variant_values_of : FormTrees → Result (List VariantValueTree) Wrong
variant_values_of fs = each_of variant_value_of fs

-- ( type M ), ( enum VALUE .. ) or ( const S )
abbrev pub model_value_of : FormTree → Result ModelValueTree Wrong
model_value_of f = headed_of M.ModelValue f >>= (λ h.
    if reads h.0 (codes "type") then (last_model_of h.1 >>= (λ t. Ok (type_value t)))
    else if reads h.0 (codes "enum") then (variant_values_of h.1.parts >>= (λ vs. Ok (enum_value vs)))
    else if reads h.0 (codes "const") then (last_expr_of h.1 >>= (λ x. Ok (const_value x)))
    else no M.ModelValue h.1.at)

-- ( model TYPE VALUE ), behind its head
abbrev pub model_of : Listed → Result ModelTree Wrong
model_of l = next_name_of l >>= (λ n. last_of M.ModelValue n.1 >>= (λ v. model_value_of v >>= (λ value.
    Ok (record { name = n.0; value = value; at = l.at }))))
