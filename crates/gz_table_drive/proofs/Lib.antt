mod AdoptLemmas
mod AnswerLemmas
mod AskLemmas
mod TenureLemmas
mod WrittenLemmas
mod InputLemmas
mod LogLemmas
mod SentLemmas
