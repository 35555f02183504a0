-- The grammar as a table: a row for each item that may be expected, and each token that it takes
-- then. IEC 61131-3, in this project's profile.
use Rattle.std.specs.Prelude.{Some, []}
use Rattle.iec_grammar.specs.Constants.{behind_constant, closes, closes_index, colon, constant, gets, int, name, negative_constant, negative_int, of_, opens, opens_index, semicolon, to_, up_to, word_behind}
use Rattle.iec_grammar.specs.Declarations.{declaration_end, declarations, declared, element_type, initial, initial_value, names, object, object_name, qualified, type_of, values}
use Rattle.iec_grammar.specs.Expressions.{behind_function, behind_operand, element, function_arguments, levels, negative_primary, operators, parenthesis, primary, tighter, unary}
use Rattle.iec_grammar.specs.Files.{end_program, end_type, enumeration_number, enumeration_word, enumeration_words, file, programs, sections}
use Rattle.iec_grammar.specs.Lines.{Line, passes}
use Rattle.iec_grammar.specs.Places.{argument, arguments, assign, behind_argument, behind_name, behind_target, behind_word, first_argument, place_element, target}
use Rattle.iec_grammar.specs.Statements as stmt
use Rattle.iec_grammar.specs.declared.item.Item.{Item}
use Rattle.iec_grammar.specs.declared.item.Item.TheVariants as item
use Rattle.iec_tokens.specs.declared.token.Token.{Token}
use Rattle.iec_tree.specs.declared.node.Part.TheVariants as part

-- the whole table
unfoldable pub row_of : Item → Token → Line
row_of item.File t = file t
row_of item.Programs t = programs t
row_of item.Sections t = sections t
row_of item.EndProgram t = end_program t
row_of item.EnumerationWord t = enumeration_word t
row_of item.EnumerationNumber t = enumeration_number t
row_of item.EnumerationWords t = enumeration_words t
row_of item.Numbered t = passes (Some part.Numbered)
row_of item.EndType t = end_type t
row_of item.Name t = name t
row_of item.Word t = word_behind t
row_of item.Colon t = colon t
row_of item.Semicolon t = semicolon t
row_of item.Gets t = gets t
row_of item.Open t = opens t
row_of item.Close t = closes t
row_of item.OpenIndex t = opens_index t
row_of item.CloseIndex t = closes_index t
row_of item.UpTo t = up_to t
row_of item.ArrayOf t = of_ t
row_of item.To t = to_ t
row_of (item.Qualified s) t = qualified s t
row_of (item.Declarations s) t = declarations s t
row_of item.Declared t = declared t
row_of item.Names t = names t
row_of (item.Type s) t = type_of s t
row_of item.ElementType t = element_type t
row_of item.Object t = object t
row_of item.ObjectName t = object_name t
row_of item.Initial t = initial t
row_of item.InitialValue t = initial_value t
row_of item.Values t = values t
row_of item.DeclarationEnd t = declaration_end t
row_of item.Int t = int [] t
row_of item.NegativeInt t = negative_int t
row_of item.Constant t = constant [] t
row_of item.NegativeConstant t = negative_constant t
row_of item.BehindConstant t = behind_constant t
row_of item.ConstantWord t = passes (Some part.ConstantWord)
row_of item.Negative t = passes (Some part.Negative)
row_of (item.Statements l) t = stmt.statements l t
row_of item.BehindName t = behind_name t
row_of item.BehindWord t = behind_word t
row_of item.Assign t = assign t
row_of item.PlaceElement t = place_element t
row_of item.PlaceMember t = passes (Some part.PlaceMember)
row_of item.FirstArgument t = first_argument t
row_of item.Argument t = argument t
row_of item.BehindArgument t = behind_argument t
row_of item.Arguments t = arguments t
row_of item.Input t = passes (Some part.Input)
row_of item.Target t = target t
row_of item.BehindTarget t = behind_target t
row_of item.Output t = passes (Some part.Output)
row_of item.Then t = stmt.then_ t
row_of (item.Else l) t = stmt.else_ l t
row_of item.EndIf t = stmt.end_if t
row_of item.Of t = stmt.of_ t
row_of (item.Branches l) t = stmt.branches l t
row_of (item.Branch l) t = stmt.branch l t
row_of item.BehindEither t = stmt.behind_either t
row_of item.BehindEitherWord t = stmt.behind_either_word t
row_of item.LabelEnd t = stmt.label_end t
row_of item.Labels t = stmt.labels t
row_of item.Label t = passes (Some part.Label)
row_of item.Range t = passes (Some part.Range)
row_of item.BranchBegins t = passes (Some part.Branch)
row_of item.EndCase t = stmt.end_case t
row_of item.By t = stmt.by_ t
row_of item.Do t = stmt.do_ t
row_of item.EndFor t = stmt.end_for t
row_of item.Closed t = stmt.closed t
row_of item.Expression t = unary levels t
row_of (item.Operand l) t = unary (tighter l) t
row_of (item.Operators l) t = operators l t
row_of (item.Join op) t = passes (Some (part.Join op))
row_of item.Primary t = primary [] t
row_of item.NegativePrimary t = negative_primary t
row_of item.Not t = passes (Some part.Not)
row_of item.BehindOperand t = behind_operand t
row_of (item.BehindFunction f) t = behind_function f t
row_of item.Element t = element t
row_of item.Member t = passes (Some part.Member)
row_of (item.FunctionArguments f) t = function_arguments f t
row_of item.Parenthesis t = parenthesis t
