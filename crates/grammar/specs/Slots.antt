-- The slots that code names, and what may stand in them. Definitions only.
use Rattle.grammar.specs.declared.Slot.{Slot as Named}
use Rattle.grammar.specs.declared.Slot.TheVariants.{Module, Symbols, Statement, OwnStatement, Expression, Key, PlainClass, ExportedClass, DefaultClass, ClassExpression, Id, Decorators, ConstructorDecorators, FunctionDecorators, Body, Element, Parameters, FunctionParameters, Parameter, FunctionParameter, Code}
use Rattle.grammar.specs.Grammar.{Slot, module', symbols, statement, own_statement, expression, key, class_under, class_expression, id, decorators, method_decorators, body, element, method_parameters, function_parameters, parameter_of, parameter_decorators, code}

abbrev pub slot_of : Named → Slot
slot_of Module = module'
slot_of Symbols = symbols
slot_of Statement = statement
slot_of OwnStatement = own_statement
slot_of Expression = expression
slot_of Key = key
slot_of PlainClass = class_under 0
slot_of ExportedClass = class_under 1
slot_of DefaultClass = class_under 2
slot_of ClassExpression = class_expression
slot_of Id = id
slot_of Decorators = decorators
slot_of ConstructorDecorators = method_decorators 1
slot_of FunctionDecorators = parameter_decorators 2
slot_of Body = body
slot_of Element = element
slot_of Parameters = method_parameters
slot_of FunctionParameters = function_parameters
slot_of Parameter = parameter_of 0
slot_of FunctionParameter = parameter_of 2
slot_of Code = code
