-- What terms are: declarations, extractors, conversions, and what is defined outside.
use Rattle.std.specs.Prelude.{nat_le, Bool, true, false, codes, Option, Some, None, option_map, Result, Ok, if◌then◌else◌}
use Rattle.model.specs.lists.Syntax.{Position, Name, extern_constructor, extern_extractor, extern_const, Definition, declaration, extractor_definition, converter_definition, extern_definition}
use Rattle.text_reader.specs.declared.errors.Mistake.TheVariants as M
use Rattle.text_reader.specs.Lexemes.{Wrong, ◌>>=◌}
use Rattle.text_reader.specs.FormTrees.{FormTree, a_word, a_number, a_constant, a_binding, a_list, FormTrees, no_form, form_and}
use Rattle.text_reader.specs.Grammar.{Listed, no, reads, count, name_of, names_of, list_of, next_of, next_name_of, next_if_of, ended}
use Rattle.text_reader.specs.PatternGrammar.{pattern_of}

-- ---- declarations

pub record FlagSet : Type 0 where
  pub is_pure : Bool
  pub is_multi : Bool
  pub is_partial : Bool
  pub is_rec : Bool

abbrev pub no_flags : FlagSet
no_flags = record { is_pure = false; is_multi = false; is_partial = false; is_rec = false }

-- a flag is there once
abbrev pub once_of : Bool → Position → FlagSet → Result FlagSet Wrong
once_of was at flags = if was then no M.OtherFlag at else Ok flags

abbrev pub with_word : FlagSet → Name → Result FlagSet Wrong
with_word flags n =
    if reads n (codes "pure") then once_of flags.is_pure n.at (record flags { is_pure = true })
    else if reads n (codes "multi") then once_of flags.is_multi n.at (record flags { is_multi = true })
    else if reads n (codes "partial") then once_of flags.is_partial n.at (record flags { is_partial = true })
    else if reads n (codes "rec") then once_of flags.is_rec n.at (record flags { is_rec = true })
    else no M.Flag n.at

abbrev pub with_flag_of : FlagSet → FormTree → Result FlagSet Wrong
with_flag_of flags (a_word n) = with_word flags n
with_flag_of flags (a_number z p) = no M.Flag p
with_flag_of flags (a_constant n p) = no M.Flag p
with_flag_of flags (a_binding n f) = no M.Flag n.at
with_flag_of flags (a_list fs p e) = no M.Flag p

abbrev pub flags_of : FlagSet → FormTrees → Result FlagSet Wrong
flags_of flags no_form = Ok flags
flags_of flags (form_and f fs) = with_flag_of flags f >>= (λ more. flags_of more fs)

-- the last three of some forms, behind those before them
abbrev pub last_three : FormTrees → Option (FormTrees × FormTree × FormTree × FormTree)
last_three no_form = None
last_three (form_and a no_form) = None
last_three (form_and a (form_and b no_form)) = None
last_three (form_and a (form_and b (form_and c no_form))) = Some (no_form, a, b, c)
last_three (form_and a (form_and b (form_and c (form_and d ds)))) =
    option_map (λ s. (form_and a s.0, s.1, s.2, s.3)) (last_three (form_and b (form_and c (form_and d ds))))

-- FLAG .. NAME ( TYPE .. ) TYPE
abbrev pub declared_of : Position → Option (FormTrees × FormTree × FormTree × FormTree) → Result Definition Wrong
declared_of at None = no M.Declaration at
declared_of at (Some s) =
    flags_of no_flags s.0 >>= (λ flags. list_of M.Names s.2 >>= (λ args. name_of s.1 >>= (λ term.
    names_of args.parts >>= (λ arg_tys. name_of s.3 >>= (λ ret_ty.
    Ok (declaration (record { term = term; arg_tys = arg_tys; ret_ty = ret_ty; pure = flags.is_pure; multi = flags.is_multi; partial = flags.is_partial; rec = flags.is_rec; at = at })))))))

-- ( decl FLAG .. NAME ( TYPE .. ) TYPE )
abbrev pub declaration_of : Listed → Result Definition Wrong
declaration_of l = declared_of l.at (last_three l.parts)

-- ---- extractors and conversions

-- ( extractor ( NAME NAME .. ) PATTERN )
abbrev pub extractor_of : Listed → Result Definition Wrong
extractor_of l =
    next_of M.Names l >>= (λ use_of. list_of M.Names use_of.0 >>= (λ used. next_name_of used >>= (λ term.
    next_of M.Pattern use_of.1 >>= (λ template. names_of term.1.parts >>= (λ args. pattern_of template.0 >>= (λ pattern.
    ended template.1.parts >>= (λ _.
    Ok (extractor_definition (record { term = term.0; args = args; template = pattern; at = l.at })))))))))

-- ( convert TYPE TYPE NAME )
abbrev pub conversion_of : Listed → Result Definition Wrong
conversion_of l =
    next_name_of l >>= (λ inner. next_name_of inner.1 >>= (λ outer. next_name_of outer.1 >>= (λ term. ended term.1.parts >>= (λ _.
    Ok (converter_definition (record { term = term.0; inner_ty = inner.0; outer_ty = outer.0; at = l.at }))))))

-- ---- what is defined outside

-- ( extern constructor NAME NAME )
abbrev pub external_constructor_of : Listed → Result Definition Wrong
external_constructor_of l =
    next_name_of l >>= (λ term. next_name_of term.1 >>= (λ func. ended func.1.parts >>= (λ _.
    Ok (extern_definition (extern_constructor term.0 func.0 l.at)))))

-- ( extern extractor infallible? NAME NAME ): of two words, the first is a name
abbrev pub infallible_of : Listed → Bool × Listed
infallible_of l = if nat_le (count l.parts) 2 then (false, l) else next_if_of (codes "infallible") l

abbrev pub external_extractor_of : Listed → Result Definition Wrong
external_extractor_of l =
    let sure = infallible_of l in
    next_name_of sure.1 >>= (λ term. next_name_of term.1 >>= (λ func. ended func.1.parts >>= (λ _.
    Ok (extern_definition (extern_extractor term.0 func.0 l.at sure.0)))))

abbrev pub constant_of : FormTree → Result Name Wrong
constant_of (a_word n) = no M.Constant n.at
constant_of (a_number z p) = no M.Constant p
constant_of (a_constant n p) = Ok n
constant_of (a_binding n f) = no M.Constant n.at
constant_of (a_list fs p e) = no M.Constant p

-- ( extern const CONSTANT TYPE )
abbrev pub external_constant_of : Listed → Result Definition Wrong
external_constant_of l =
    next_of M.Constant l >>= (λ constant. constant_of constant.0 >>= (λ name. next_name_of constant.1 >>= (λ ty. ended ty.1.parts >>= (λ _.
    Ok (extern_definition (extern_const name ty.0 l.at))))))

-- what is defined outside, by the word behind `extern`
abbrev pub external_by : FormTree → Listed → Result Definition Wrong
external_by (a_word n) l =
    if reads n (codes "constructor") then external_constructor_of l
    else if reads n (codes "extractor") then external_extractor_of l
    else if reads n (codes "const") then external_constant_of l
    else no M.Extern n.at
external_by (a_number z p) l = no M.Extern p
external_by (a_constant n p) l = no M.Extern p
external_by (a_binding n f) l = no M.Extern n.at
external_by (a_list fs p e) l = no M.Extern p

abbrev pub external_of : Listed → Result Definition Wrong
external_of l = next_of M.Extern l >>= (λ kind. external_by kind.0 kind.1)
