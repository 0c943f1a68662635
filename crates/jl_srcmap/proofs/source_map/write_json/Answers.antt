use Rattle.std.proofs.Common.{◌≡◌, rules}
use Rattle.std.proofs.lemmas.Str.{IsUtf8-from_ascii}
use Rattle.jl_srcmap.specs.SourceMap.{source_map_text}
use Rattle.jl_srcmap.proofs.MapText.{is_map}
use Rattle.jl_srcmap.proofs.source_map.write_json.Goals as goal

pub unreachable-requires : goal.unreachable-requires
unreachable-requires c = c.in_default.ensures.cases.0 (IsUtf8-from_ascii c.args.mappings.now c.requires)

pub returns-clause-reads_back : goal.returns-clause-reads_back
returns-clause-reads_back c =
    let text : c.push.new.self.items ≡ source_map_text c.args.mappings.now = search rules in
    is_map c.push.new.self.items c.in_ok-bytes.bytes.items c.args.mappings.now text c.in_ok-push.ensures.items
    c.in_ok-bytes.ensures.utf8
