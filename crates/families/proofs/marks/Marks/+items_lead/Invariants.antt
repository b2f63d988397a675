use Rattle.std.proofs.Common.{length}
use Rattle.families.proofs.marks.Marks.+items_lead.Given as goal

abbrev pub decreases-items_lead : goal.decreases-items_lead
decreases-items_lead l = length l.items.now
