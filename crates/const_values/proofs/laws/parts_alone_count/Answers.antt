use Rattle.const_values.proofs.Parts.{of_paren, of_unary, of_binary, of_iif, of_cast, of_call, of_cptr, of_new_with, of_new_array, of_args, of_index, of_field, of_arrow}
use Rattle.const_values.proofs.laws.parts_alone_count.Goals as goal

pub returns : goal.returns
returns c = record {
  paren = λ named sized at e. of_paren named sized at e;
  unary = λ named sized at op e. of_unary named sized at op e;
  binary = λ named sized at place left right op. of_binary named sized at left op place right;
  iif = λ named sized at c a b. of_iif named sized at c a b;
  cast = λ named sized at ty e. of_cast named sized at ty e;
  word = λ named sized at word args. of_call named sized at word args;
  cptr = λ named sized at ty e. of_cptr named sized at ty e;
  new_with = λ named sized at ty args. of_new_with named sized at ty args;
  new_array = λ named sized at ty e. of_new_array named sized at ty e;
  call = λ named sized at callee args. of_args named sized at callee args;
  index = λ named sized at pointer index. of_index named sized at pointer index;
  field = λ named sized at whole name. of_field named sized at whole name;
  arrow = λ named sized at pointer name. of_arrow named sized at pointer name;
}
