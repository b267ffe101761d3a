use Rattle.std.proofs.Common.{rules, tests, ◌∙◌}
use Rattle.std.proofs.lemmas.Iterator.{YieldsList-from_slice}
use Rattle.std.proofs.lemmas.Iterator.Search.{all_from_yields_List}
use Rattle.service_sheet.specs.Sheets.{is_in_range}
use Rattle.service_sheet.proofs.Ranges.{all_in_range}
use Rattle.service_sheet.proofs.sheet.are_in_range.Goals as goal

pub returns : goal.returns
returns c =
    all_from_yields_List is_in_range _ _ c.all.result c.all.ensures.ran (YieldsList-from_slice c.args.records.now (cc)) (λ x b q k. search (rules, tests))
    ∙ all_in_range c.args.records.now
