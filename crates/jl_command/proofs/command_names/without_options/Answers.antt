use Rattle.std.proofs.Common.{◌∙◌, Some, codes, sym}
use Rattle.jl_command.specs.Asked as asked
use Rattle.jl_command.specs.Meant.{means_check, means_instrument, means_map, means_print, means_srcmap, means_unmap}
use Rattle.jl_command.specs.declared.command.Command.TheVariants as commands
use Rattle.jl_command.proofs.NamedCommands.{by_name}
use Rattle.jl_command.proofs.command_names.without_options.Goals as goal

pub returns-then-eq : goal.returns-then-eq
returns-then-eq c =
    by_name (Some commands.Check) c.args.name.now (codes "check") (λ n. asked.without_options n)
    (sym c.if-eq.true ∙ c.eq.ensures) means_check

pub returns-then-eq-2 : goal.returns-then-eq-2
returns-then-eq-2 c =
    by_name (Some commands.Print) c.args.name.now (codes "print") (λ n. asked.without_options n)
    (sym c.if-eq-2.true ∙ c.eq-2.ensures) means_print

pub returns-then-eq-3 : goal.returns-then-eq-3
returns-then-eq-3 c =
    by_name (Some commands.Instrument) c.args.name.now (codes "instrument") (λ n. asked.without_options n)
    (sym c.if-eq-3.true ∙ c.eq-3.ensures) means_instrument

pub returns-then-eq-4 : goal.returns-then-eq-4
returns-then-eq-4 c =
    by_name (Some commands.Map) c.args.name.now (codes "map") (λ n. asked.without_options n)
    (sym c.if-eq-4.true ∙ c.eq-4.ensures) means_map

pub returns-then-eq-5 : goal.returns-then-eq-5
returns-then-eq-5 c =
    by_name (Some commands.Srcmap) c.args.name.now (codes "srcmap") (λ n. asked.without_options n)
    (sym c.if-eq-5.true ∙ c.eq-5.ensures) means_srcmap

pub returns-then-eq-6 : goal.returns-then-eq-6
returns-then-eq-6 c =
    by_name (Some commands.Unmap) c.args.name.now (codes "unmap") (λ n. asked.without_options n)
    (sym c.if-eq-6.true ∙ c.eq-6.ensures) means_unmap
