-- Definitions of types.
use Rattle.std.specs.Prelude.{ℕ, suc, List, [], ◌∷◌, codes, Result, Ok, if◌then◌else◌}
use Rattle.model.specs.lists.Syntax.{Name, FieldTree, TupleFieldTree, FieldTrees, unit_fields, struct_fields, tuple_fields, VariantTree, TypeValueTree, primitive_value, enum_value, struct_value, Definition, type_definition}
use Rattle.text_reader.specs.declared.errors.Mistake.TheVariants as M
use Rattle.text_reader.specs.Lexemes.{Wrong, ◌>>=◌}
use Rattle.text_reader.specs.FormTrees.{FormTree, a_word, a_number, a_constant, a_binding, a_list, FormTrees, no_form, form_and}
use Rattle.text_reader.specs.Grammar.{Listed, no, reads, each_of, names_of, list_of, next_of, next_name_of, headed_of, next_if_of, ended}

-- ( NAME TYPE )
abbrev pub named_field_of : FormTree → Result FieldTree Wrong
named_field_of f =
    list_of M.Field f >>= (λ l. next_name_of l >>= (λ name. next_name_of name.1 >>= (λ ty. ended ty.1.parts >>= (λ _.
    Ok (record { name = name.0; ty = ty.0; at = l.at })))))

abbrev pub named_fields_of : FormTrees → Result (List FieldTree) Wrong
named_fields_of fs = each_of named_field_of fs

-- fields of these types, whose names are their numbers, from this one on
abbrev pub numbered_from : ℕ → List Name → List TupleFieldTree
numbered_from i [] = []
numbered_from i (ty ∷ tys) = record { index = i; ty = ty; at = ty.at } ∷ numbered_from (suc i) tys

abbrev pub with_names_of : FormTrees → Result FieldTrees Wrong
with_names_of fs = named_fields_of fs >>= (λ fields. Ok (struct_fields fields))

-- TYPE ..
abbrev pub with_numbers_of : FormTrees → Result FieldTrees Wrong
with_numbers_of fs = names_of fs >>= (λ tys. Ok (tuple_fields (numbered_from 0 tys)))

-- no fields, or fields with names if the first is a list, or without
abbrev pub fields_of : FormTrees → Result FieldTrees Wrong
fields_of no_form = Ok unit_fields
fields_of (form_and (a_list fs p e) rest) = with_names_of (form_and (a_list fs p e) rest)
fields_of (form_and (a_word n) rest) = with_numbers_of (form_and (a_word n) rest)
fields_of (form_and (a_number z p) rest) = with_numbers_of (form_and (a_number z p) rest)
fields_of (form_and (a_constant n p) rest) = with_numbers_of (form_and (a_constant n p) rest)
fields_of (form_and (a_binding n f) rest) = with_numbers_of (form_and (a_binding n f) rest)

-- ( NAME FIELDS )
abbrev pub with_fields_of : FormTree → Result VariantTree Wrong
with_fields_of f =
    list_of M.Variant f >>= (λ l. next_name_of l >>= (λ name. fields_of name.1.parts >>= (λ fields.
    Ok (record { name = name.0; fields = fields; at = l.at }))))

-- NAME, or a list of a name and fields
abbrev pub variant_of : FormTree → Result VariantTree Wrong
variant_of (a_word n) = Ok (record { name = n; fields = unit_fields; at = n.at })
variant_of (a_number z p) = with_fields_of (a_number z p)
variant_of (a_constant n p) = with_fields_of (a_constant n p)
variant_of (a_binding n f) = with_fields_of (a_binding n f)
variant_of (a_list fs p e) = with_fields_of (a_list fs p e)

abbrev pub variants_of : FormTrees → Result (List VariantTree) Wrong
variants_of fs = each_of variant_of fs

-- ( primitive NAME ), behind its head
abbrev pub primitive_of : Listed → Result TypeValueTree Wrong
primitive_of l = next_name_of l >>= (λ name. ended name.1.parts >>= (λ _. Ok (primitive_value name.0 l.at)))

-- ( enum VARIANT .. )
abbrev pub enumeration_of : Listed → Result TypeValueTree Wrong
enumeration_of l = variants_of l.parts >>= (λ vs. Ok (enum_value vs l.at))

-- ( struct FIELDS )
abbrev pub structure_of : Listed → Result TypeValueTree Wrong
structure_of l = fields_of l.parts >>= (λ fields. Ok (struct_value fields l.at))

abbrev pub type_value_of : FormTree → Result TypeValueTree Wrong
type_value_of f = headed_of M.TypeValue f >>= (λ h.
    if reads h.0 (codes "primitive") then primitive_of h.1
    else if reads h.0 (codes "enum") then enumeration_of h.1
    else if reads h.0 (codes "struct") then structure_of h.1
    else no M.TypeValue h.1.at)

-- ( type NAME extern? nodebug? VALUE )
abbrev pub type_definition_of : Listed → Result Definition Wrong
type_definition_of l =
    next_name_of l >>= (λ name.
    let outside = next_if_of (codes "extern") name.1 in
    let silent = next_if_of (codes "nodebug") outside.1 in
    next_of M.TypeValue silent.1 >>= (λ value. type_value_of value.0 >>= (λ v. ended value.1.parts >>= (λ _.
    Ok (type_definition (record { name = name.0; is_extern = outside.0; is_nodebug = silent.0; value = v; at = l.at }))))))
