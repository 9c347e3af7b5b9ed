mod Reading
mod Server
