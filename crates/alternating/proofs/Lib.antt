mod EveryStepKeepsIt
mod UsersBring
mod AlternatingBoots
mod ReportComputes
mod TextIsTree
