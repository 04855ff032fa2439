mod EventsAnswered
mod RunInRange
mod SummingTexts
mod SumsTraced
