use Rattle.std.proofs.lemmas.Result.{on_ok_weaker}
use Rattle.jl_record.proofs.Storable.{can_be_stored}
use Rattle.jl_record.proofs.WrittenParts.{appends_facts}
use Rattle.jl_record.proofs.written_lines.write_facts.Goals as goal

pub returns-in-ScriptEnter-clause-facts : goal.returns-in-ScriptEnter-clause-facts
returns-in-ScriptEnter-clause-facts c =
    on_ok_weaker _ (can_be_stored c.in-ScriptEnter.is) c.write.ensures.facts

pub returns-in-ScriptExit-clause-facts : goal.returns-in-ScriptExit-clause-facts
returns-in-ScriptExit-clause-facts c =
    on_ok_weaker _ (can_be_stored c.in-ScriptExit.is) c.write-in-ScriptExit.ensures.facts

pub returns-in-FunctionEnter-clause-holds : goal.returns-in-FunctionEnter-clause-holds
returns-in-FunctionEnter-clause-holds c =
    on_ok_weaker _ (appends_facts _ _ c.in-FunctionEnter.is) c.write-in-FunctionEnter.ensures.holds

pub returns-in-FunctionEnter-clause-facts : goal.returns-in-FunctionEnter-clause-facts
returns-in-FunctionEnter-clause-facts c =
    on_ok_weaker _ (can_be_stored c.in-FunctionEnter.is) c.write-in-FunctionEnter.ensures.facts

pub returns-in-FunctionExit-clause-holds : goal.returns-in-FunctionExit-clause-holds
returns-in-FunctionExit-clause-holds c =
    on_ok_weaker _ (appends_facts _ _ c.in-FunctionExit.is) c.write-in-FunctionExit.ensures.holds

pub returns-in-FunctionExit-clause-facts : goal.returns-in-FunctionExit-clause-facts
returns-in-FunctionExit-clause-facts c =
    on_ok_weaker _ (can_be_stored c.in-FunctionExit.is) c.write-in-FunctionExit.ensures.facts

pub returns-in-Literal-clause-holds : goal.returns-in-Literal-clause-holds
returns-in-Literal-clause-holds c =
    on_ok_weaker _ (appends_facts _ _ c.in-Literal.is) c.write-in-Literal.ensures.holds

pub returns-in-Literal-clause-facts : goal.returns-in-Literal-clause-facts
returns-in-Literal-clause-facts c =
    on_ok_weaker _ (can_be_stored c.in-Literal.is) c.write-in-Literal.ensures.facts

pub returns-in-ArrayLiteral-clause-holds : goal.returns-in-ArrayLiteral-clause-holds
returns-in-ArrayLiteral-clause-holds c =
    on_ok_weaker _ (appends_facts _ _ c.in-ArrayLiteral.is) c.write-in-ArrayLiteral.ensures.holds

pub returns-in-ArrayLiteral-clause-facts : goal.returns-in-ArrayLiteral-clause-facts
returns-in-ArrayLiteral-clause-facts c =
    on_ok_weaker _ (can_be_stored c.in-ArrayLiteral.is) c.write-in-ArrayLiteral.ensures.facts

pub returns-in-ObjectLiteral-clause-holds : goal.returns-in-ObjectLiteral-clause-holds
returns-in-ObjectLiteral-clause-holds c =
    on_ok_weaker _ (appends_facts _ _ c.in-ObjectLiteral.is) c.write-in-ObjectLiteral.ensures.holds

pub returns-in-ObjectLiteral-clause-facts : goal.returns-in-ObjectLiteral-clause-facts
returns-in-ObjectLiteral-clause-facts c =
    on_ok_weaker _ (can_be_stored c.in-ObjectLiteral.is) c.write-in-ObjectLiteral.ensures.facts

pub returns-in-FunctionLiteral-clause-holds : goal.returns-in-FunctionLiteral-clause-holds
returns-in-FunctionLiteral-clause-holds c =
    on_ok_weaker _ (appends_facts _ _ c.in-FunctionLiteral.is) c.write-in-FunctionLiteral.ensures.holds

pub returns-in-FunctionLiteral-clause-facts : goal.returns-in-FunctionLiteral-clause-facts
returns-in-FunctionLiteral-clause-facts c =
    on_ok_weaker _ (can_be_stored c.in-FunctionLiteral.is) c.write-in-FunctionLiteral.ensures.facts

pub returns-in-Read-clause-holds : goal.returns-in-Read-clause-holds
returns-in-Read-clause-holds c =
    on_ok_weaker _ (appends_facts _ _ c.in-Read.is) c.write-in-Read.ensures.holds

pub returns-in-Read-clause-facts : goal.returns-in-Read-clause-facts
returns-in-Read-clause-facts c =
    on_ok_weaker _ (can_be_stored c.in-Read.is) c.write-in-Read.ensures.facts

pub returns-in-Write-clause-holds : goal.returns-in-Write-clause-holds
returns-in-Write-clause-holds c =
    on_ok_weaker _ (appends_facts _ _ c.in-Write.is) c.write-in-Write.ensures.holds

pub returns-in-Write-clause-facts : goal.returns-in-Write-clause-facts
returns-in-Write-clause-facts c =
    on_ok_weaker _ (can_be_stored c.in-Write.is) c.write-in-Write.ensures.facts

pub returns-in-TypeofName-clause-holds : goal.returns-in-TypeofName-clause-holds
returns-in-TypeofName-clause-holds c =
    on_ok_weaker _ (appends_facts _ _ c.in-TypeofName.is) c.write-in-TypeofName.ensures.holds

pub returns-in-TypeofName-clause-facts : goal.returns-in-TypeofName-clause-facts
returns-in-TypeofName-clause-facts c =
    on_ok_weaker _ (can_be_stored c.in-TypeofName.is) c.write-in-TypeofName.ensures.facts

pub returns-in-GetField-clause-holds : goal.returns-in-GetField-clause-holds
returns-in-GetField-clause-holds c =
    on_ok_weaker _ (appends_facts _ _ c.in-GetField.is) c.write-in-GetField.ensures.holds

pub returns-in-GetField-clause-facts : goal.returns-in-GetField-clause-facts
returns-in-GetField-clause-facts c =
    on_ok_weaker _ (can_be_stored c.in-GetField.is) c.write-in-GetField.ensures.facts

pub returns-in-PutField-clause-holds : goal.returns-in-PutField-clause-holds
returns-in-PutField-clause-holds c =
    on_ok_weaker _ (appends_facts _ _ c.in-PutField.is) c.write-in-PutField.ensures.holds

pub returns-in-PutField-clause-facts : goal.returns-in-PutField-clause-facts
returns-in-PutField-clause-facts c =
    on_ok_weaker _ (can_be_stored c.in-PutField.is) c.write-in-PutField.ensures.facts

pub returns-in-DeleteField-clause-holds : goal.returns-in-DeleteField-clause-holds
returns-in-DeleteField-clause-holds c =
    on_ok_weaker _ (appends_facts _ _ c.in-DeleteField.is) c.write-in-DeleteField.ensures.holds

pub returns-in-DeleteField-clause-facts : goal.returns-in-DeleteField-clause-facts
returns-in-DeleteField-clause-facts c =
    on_ok_weaker _ (can_be_stored c.in-DeleteField.is) c.write-in-DeleteField.ensures.facts

pub returns-in-InvokePre-clause-holds : goal.returns-in-InvokePre-clause-holds
returns-in-InvokePre-clause-holds c =
    on_ok_weaker _ (appends_facts _ _ c.in-InvokePre.is) c.write-in-InvokePre.ensures.holds

pub returns-in-InvokePre-clause-facts : goal.returns-in-InvokePre-clause-facts
returns-in-InvokePre-clause-facts c =
    on_ok_weaker _ (can_be_stored c.in-InvokePre.is) c.write-in-InvokePre.ensures.facts

pub returns-in-InvokePost-clause-holds : goal.returns-in-InvokePost-clause-holds
returns-in-InvokePost-clause-holds c =
    on_ok_weaker _ (appends_facts _ _ c.in-InvokePost.is) c.write-in-InvokePost.ensures.holds

pub returns-in-InvokePost-clause-facts : goal.returns-in-InvokePost-clause-facts
returns-in-InvokePost-clause-facts c =
    on_ok_weaker _ (can_be_stored c.in-InvokePost.is) c.write-in-InvokePost.ensures.facts

pub returns-in-Binary-clause-holds : goal.returns-in-Binary-clause-holds
returns-in-Binary-clause-holds c =
    on_ok_weaker _ (appends_facts _ _ c.in-Binary.is) c.write-in-Binary.ensures.holds

pub returns-in-Binary-clause-facts : goal.returns-in-Binary-clause-facts
returns-in-Binary-clause-facts c =
    on_ok_weaker _ (can_be_stored c.in-Binary.is) c.write-in-Binary.ensures.facts

pub returns-in-Unary-clause-holds : goal.returns-in-Unary-clause-holds
returns-in-Unary-clause-holds c =
    on_ok_weaker _ (appends_facts _ _ c.in-Unary.is) c.write-in-Unary.ensures.holds

pub returns-in-Unary-clause-facts : goal.returns-in-Unary-clause-facts
returns-in-Unary-clause-facts c =
    on_ok_weaker _ (can_be_stored c.in-Unary.is) c.write-in-Unary.ensures.facts

pub returns-in-Conditional-clause-holds : goal.returns-in-Conditional-clause-holds
returns-in-Conditional-clause-holds c =
    on_ok_weaker _ (appends_facts _ _ c.in-Conditional.is) c.write-in-Conditional.ensures.holds

pub returns-in-Conditional-clause-facts : goal.returns-in-Conditional-clause-facts
returns-in-Conditional-clause-facts c =
    on_ok_weaker _ (can_be_stored c.in-Conditional.is) c.write-in-Conditional.ensures.facts

pub returns-in-ForIn-clause-holds : goal.returns-in-ForIn-clause-holds
returns-in-ForIn-clause-holds c =
    on_ok_weaker _ (appends_facts _ _ c.in-ForIn.is) c.write-in-ForIn.ensures.holds

pub returns-in-ForIn-clause-facts : goal.returns-in-ForIn-clause-facts
returns-in-ForIn-clause-facts c =
    on_ok_weaker _ (can_be_stored c.in-ForIn.is) c.write-in-ForIn.ensures.facts

pub returns-in-Return-clause-holds : goal.returns-in-Return-clause-holds
returns-in-Return-clause-holds c =
    on_ok_weaker _ (appends_facts _ _ c.in-Return.is) c.write-in-Return.ensures.holds

pub returns-in-Return-clause-facts : goal.returns-in-Return-clause-facts
returns-in-Return-clause-facts c =
    on_ok_weaker _ (can_be_stored c.in-Return.is) c.write-in-Return.ensures.facts

pub returns-in-Throw-clause-holds : goal.returns-in-Throw-clause-holds
returns-in-Throw-clause-holds c =
    on_ok_weaker _ (appends_facts _ _ c.in-Throw.is) c.write-in-Throw.ensures.holds

pub returns-in-Throw-clause-facts : goal.returns-in-Throw-clause-facts
returns-in-Throw-clause-facts c =
    on_ok_weaker _ (can_be_stored c.in-Throw.is) c.write-in-Throw.ensures.facts

pub returns-in-Catch-clause-holds : goal.returns-in-Catch-clause-holds
returns-in-Catch-clause-holds c =
    on_ok_weaker _ (appends_facts _ _ c.in-Catch.is) c.write-in-Catch.ensures.holds

pub returns-in-Catch-clause-facts : goal.returns-in-Catch-clause-facts
returns-in-Catch-clause-facts c =
    on_ok_weaker _ (can_be_stored c.in-Catch.is) c.write-in-Catch.ensures.facts
