mod ComesThrough
mod AnyUsersMail
mod MailersCall
mod ProgramTexts
mod AnyProgramsMail
mod CompiledBoots
mod CountedCalls
