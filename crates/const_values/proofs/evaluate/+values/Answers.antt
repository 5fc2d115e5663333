use Rattle.std.proofs.Common.{sym, ◌∙◌, ap}
use Rattle.const_values.specs.Values.{value_of}
use Rattle.const_values.proofs.Parts.{by_paren, by_cast, by_iif, by_word, by_unary, by_binary, by_new_with, by_new_array, by_cptr, by_args, by_index, by_field, by_arrow}
use Rattle.const_values.proofs.evaluate.+values.Goals as goal

pub value-returns-in-Paren : goal.value-returns-in-Paren
value-returns-in-Paren g t c =
    let named = g.K.Known.named c.args.known.now in
    let sized = g.K.Known.sized c.args.known.now in
    by_paren named sized c.in-Paren.field-0 _ _ _ c.get.ensures c.value.ensures ∙ sym (ap (value_of named sized) c.in-Paren.is)

pub value-returns-in-Unary : goal.value-returns-in-Unary
value-returns-in-Unary g t c =
    let named = g.K.Known.named c.args.known.now in
    let sized = g.K.Known.sized c.args.known.now in
    c.unary.ensures ∙ by_unary named sized c.in-Unary.field-0 _ _ _ _ c.get-in-Unary.ensures c.value-in-Unary.ensures ∙ sym (ap (value_of named sized) c.in-Unary.is)

pub value-returns-in-Binary : goal.value-returns-in-Binary
value-returns-in-Binary g t c =
    let named = g.K.Known.named c.args.known.now in
    let sized = g.K.Known.sized c.args.known.now in
    c.between.ensures ∙ by_binary named sized c.in-Binary.field-0 _ _ c.in-Binary.field-3 _ _ _ _ _ c.get-in-Binary.ensures c.get-in-Binary-2.ensures c.value-in-Binary.ensures c.value-in-Binary-2.ensures ∙ sym (ap (value_of named sized) c.in-Binary.is)

pub value-returns-in-IIf : goal.value-returns-in-IIf
value-returns-in-IIf g t c =
    let named = g.K.Known.named c.args.known.now in
    let sized = g.K.Known.sized c.args.known.now in
    c.choice.ensures ∙ by_iif named sized c.in-IIf.field-0 _ _ _ _ _ _ _ _ _ c.get-in-IIf.ensures c.get-in-IIf-2.ensures c.get-in-IIf-3.ensures c.value-in-IIf.ensures c.value-in-IIf-2.ensures c.value-in-IIf-3.ensures ∙ sym (ap (value_of named sized) c.in-IIf.is)

pub value-returns-in-Cast : goal.value-returns-in-Cast
value-returns-in-Cast g t c =
    let named = g.K.Known.named c.args.known.now in
    let sized = g.K.Known.sized c.args.known.now in
    c.after.ensures ∙ by_cast named sized c.in-Cast.field-0 c.in-Cast.ty _ _ _ _ _ _ c.get-in-Cast.ensures c.number_type.ensures c.sized-in-Cast.ensures c.value-in-Cast.ensures c.cast.ensures ∙ sym (ap (value_of named sized) c.in-Cast.is)

pub value-returns-in-CallWord : goal.value-returns-in-CallWord
value-returns-in-CallWord g t c =
    let named = g.K.Known.named c.args.known.now in
    let sized = g.K.Known.sized c.args.known.now in
    by_word named sized c.in-CallWord.field-0 c.in-CallWord.word _ _ _ c.as_slice.ensures c.word_value.ensures ∙ sym (ap (value_of named sized) c.in-CallWord.is)

pub value-returns-in-NewWith : goal.value-returns-in-NewWith
value-returns-in-NewWith g t c =
    let named = g.K.Known.named c.args.known.now in
    let sized = g.K.Known.sized c.args.known.now in
    c.after-in-NewWith.ensures ∙ by_new_with named sized c.in-NewWith.field-0 c.in-NewWith.ty _ _ _ _ c.as_slice-in-NewWith.ensures c.sized-in-NewWith.ensures c.fault_among.ensures ∙ sym (ap (value_of named sized) c.in-NewWith.is)

pub value-returns-in-NewArray : goal.value-returns-in-NewArray
value-returns-in-NewArray g t c =
    let named = g.K.Known.named c.args.known.now in
    let sized = g.K.Known.sized c.args.known.now in
    c.after-in-NewArray.ensures ∙ by_new_array named sized c.in-NewArray.field-0 c.in-NewArray.ty _ _ _ _ _ c.get-in-NewArray.ensures c.sized-in-NewArray.ensures c.value-in-NewArray.ensures c.unvalued-in-NewArray.ensures ∙ sym (ap (value_of named sized) c.in-NewArray.is)

pub value-returns-in-CPtr : goal.value-returns-in-CPtr
value-returns-in-CPtr g t c =
    let named = g.K.Known.named c.args.known.now in
    let sized = g.K.Known.sized c.args.known.now in
    c.after-in-CPtr.ensures ∙ by_cptr named sized c.in-CPtr.field-0 c.in-CPtr.ty _ _ _ _ _ c.get-in-CPtr.ensures c.sized-in-CPtr.ensures c.value-in-CPtr.ensures c.unvalued-in-CPtr.ensures ∙ sym (ap (value_of named sized) c.in-CPtr.is)

pub value-returns-in-Call : goal.value-returns-in-Call
value-returns-in-Call g t c =
    let named = g.K.Known.named c.args.known.now in
    let sized = g.K.Known.sized c.args.known.now in
    c.after-in-Call.ensures ∙ by_args named sized c.in-Call.field-0 _ _ _ _ _ _ c.get-in-Call.ensures c.as_slice-in-Call.ensures c.value-in-Call.ensures c.fault_among-in-Call.ensures ∙ sym (ap (value_of named sized) c.in-Call.is)

pub value-returns-in-Index : goal.value-returns-in-Index
value-returns-in-Index g t c =
    let named = g.K.Known.named c.args.known.now in
    let sized = g.K.Known.sized c.args.known.now in
    c.after-in-Index.ensures ∙ by_index named sized c.in-Index.field-0 _ _ _ _ _ _ _ c.get-in-Index.ensures c.get-in-Index-2.ensures c.value-in-Index.ensures c.value-in-Index-2.ensures c.unvalued-in-Index.ensures ∙ sym (ap (value_of named sized) c.in-Index.is)

pub value-returns-in-Field : goal.value-returns-in-Field
value-returns-in-Field g t c =
    let named = g.K.Known.named c.args.known.now in
    let sized = g.K.Known.sized c.args.known.now in
    c.unvalued-in-Field.ensures ∙ by_field named sized c.in-Field.field-0 _ _ c.in-Field.field-2 _ c.get-in-Field.ensures c.value-in-Field.ensures ∙ sym (ap (value_of named sized) c.in-Field.is)

pub value-returns-in-Arrow : goal.value-returns-in-Arrow
value-returns-in-Arrow g t c =
    let named = g.K.Known.named c.args.known.now in
    let sized = g.K.Known.sized c.args.known.now in
    c.unvalued-in-Arrow.ensures ∙ by_arrow named sized c.in-Arrow.field-0 _ _ c.in-Arrow.field-2 _ c.get-in-Arrow.ensures c.value-in-Arrow.ensures ∙ sym (ap (value_of named sized) c.in-Arrow.is)
